-- `look` meets its contract: each word is passed by where it has no image, and is found where it has one. Assumes nothing.
use Rattle.std.proofs.Common.{◌+◌, ◌≡◌, ◌<◌, ◌≤◌, ℕ, get_or, sym, ◌∙◌, subst, arith}
use Rattle.std.proofs.lemmas.List.{get_or_default}
use Rattle.rules.specs.Mapping.{no_image}
use Rattle.layout.specs.Columns.{columns}
use Rattle.layout.proofs.Laid.{laid_facts}
use Rattle.equivalence.specs.Unmapping.{Searched}
use Rattle.equivalence.proofs.Searching.{one_found}
use Rattle.equivalence.proofs.unmapping.look.Goals as goal

pub loop-i-preserved-then-mapping-i : goal.loop-i-preserved-then-mapping-i
loop-i-preserved-then-mapping-i c =
    let a = c.args in
    let i : ℕ = c.in-Some.i in
    let step = c.in-Some.ensures.steps in
    let next : c.next.new.self.start ≡ i + 1 = omega (arith, step) in
    let here : i ≡ c.loop-i.i-iterator.start = omega (arith, step) in
    let small : i < 2816 = omega (arith, step, c.requires.owners_at.ends) in
    let from : 2048 ≤ i = (c.requires.owners_at.each i (omega (arith, step)) (omega (arith, step))).from in
    let read : get_or a.mapping.now i no_image ≡ get_or a.mapping.now i 0 = get_or_default a.mapping.now i no_image 0 (omega arith) in
    let C = columns a.store.now in
    record {
      from = omega (arith, step);
      end = omega (arith, step);
      rises = omega (arith, step);
      searched = subst (λ (k : ℕ). Searched C a.mapping.now k c.found-s.result) (sym next)
          (one_found C (laid_facts C c.requires.sound.laid) a.mapping.now i c.loop-i.s c.found-s.result
          (subst (λ (k : ℕ). Searched C a.mapping.now k c.loop-i.s) (sym here) c.loop-i.invariant.searched) from small (λ e. c.if-mapping-i.true (sym read ∙ e)) c.found-s.ensures);
    }
