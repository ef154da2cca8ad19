-- `children_linked` meets its contract: the children are gone through from the last to the first. Assumes nothing.
use Prim.Native.Nat.{ℕ, ◌-◌}
use native.Mathlib.Omega.{arith}
use mathlib.Core.Path.{◌≡◌, refl, sym, ◌∙◌}
use Rattle.layout.specs.Columns.{columns}
use Rattle.layout.specs.Families.{child_linked, child_linked_by}
use Rattle.layout.proofs.Empty.{zeros}
use Rattle.layout.proofs.Going.{going_starts, going_tested, going_fails, going_on, going_done}
use Rattle.layout.proofs.links.children_linked.Goals as goal

pub loop-n-init : goal.loop-n-init
loop-n-init c = going_starts c.requires.few c.requires.words c.number-count.ensures refl (zeros 257)

pub returns-then-not-child_linked : goal.returns-then-not-child_linked
unfolding child_linked
returns-then-not-child_linked c =
    let n : ℕ = c.loop-n.n - 1 in
    let tested : c.child_linked.result ≡ child_linked (columns c.args.store.now) c.args.family n =
    going_tested c.loop-n.invariant c.loop-n-test.true (child_linked_by (columns c.args.store.now) c.args.family n) c.number-word.ensures refl c.child_linked.ensures in
    going_fails c.loop-n.invariant c.loop-n-test.true (sym tested ∙ c.if-not-child_linked.true)

pub loop-n-preserved : goal.loop-n-preserved
unfolding child_linked
loop-n-preserved c =
    let n : ℕ = c.loop-n.n - 1 in
    let tested : c.child_linked.result ≡ child_linked (columns c.args.store.now) c.args.family n =
    going_tested c.loop-n.invariant c.loop-n-test.true (child_linked_by (columns c.args.store.now) c.args.family n) c.number-word.ensures refl c.child_linked.ensures in
    going_on c.loop-n.invariant c.loop-n-test.true c.number-word.ensures (sym tested ∙ c.if-not-child_linked.false)

pub returns : goal.returns
returns c = going_done c.loop-n.invariant (omega arith)
