-- `blank` meets its contract: the words are written over where there are any. Assumes nothing.
use Rattle.std.proofs.Common.{rules, ◌≡◌, ◌-◌, replicate, sym, ◌∙◌, arith}
use Rattle.std.proofs.lemmas.Slice.{overwrites}
use Rattle.rules.specs.Mapping.{no_image}
use Rattle.layout.specs.Columns.{pasted}
use Rattle.equivalence.proofs.Blanked.{blank_over, blank_not}
use Rattle.equivalence.proofs.unmapping.blank.Goals as goal

pub returns-then-from-end : goal.returns-then-from-end
returns-then-from-end c =
    let a = c.args in
    let e : _ ≡ pasted a.mapping.now a.from (replicate (a.end - a.from) no_image) = search (rules, overwrites) in
    e ∙ sym (blank_over a.mapping.now a.from a.end c.if-from-end.true)

pub returns-else-from-end : goal.returns-else-from-end
returns-else-from-end c =
    let a = c.args in
    sym (blank_not a.mapping.now a.from a.end (omega (arith, c.if-from-end.false)))
