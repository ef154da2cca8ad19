-- `new` meets its contract: after each turn one start more is chained. Assumes nothing.
use Rattle.std.proofs.Common.{◌≡◌, suc, ◌-◌, get_or, refl, ◌∙◌, subst, arith, length-set}
use Rattle.std.specs.Prelude as std
use Rattle.hashing.proofs.Linking.{Linked, linked_none, linked_next, linked_all, none_there}
use Rattle.hashing.proofs.chains.Chains.new.Goals as goal

pub loop-i-init : goal.loop-i-init
loop-i-init c = (refl, refl, linked_none c.args.sums.now _ _ (none_there 512))

pub loop-i-preserved : goal.loop-i-preserved
loop-i-preserved c =
    let m = c.loop-i in
    let own = c.bucket-own.result in
    let step : m.i ≡ suc (m.i - 1) = omega (arith, c.loop-i-test.true) in (
      length-set m.first own (std.Some (m.i - 1)) ∙ m.invariant.0,
      length-set m.next (m.i - 1) (get_or m.first own std.None) ∙ m.invariant.1,
      linked_next c.args.sums.now m.first m.next (m.i - 1) own m.invariant.0 m.invariant.1 (omega (arith, m.auto.i, c.loop-i-test.true)) (omega (arith, m.auto.i, c.loop-i-test.true, c.requires))
          c.bucket-own.ensures.upper_bound c.bucket-own.ensures.value (subst (Linked c.args.sums.now m.first m.next) step m.invariant.2),
    )

pub returns : goal.returns
returns c = linked_all c.args.sums.now c.loop-i.first c.loop-i.next c.loop-i.i (omega arith) c.loop-i.invariant.2
