-- `marks_are_sound` meets its contract: without a mark nothing is asked. Assumes nothing.
use mathlib.Core.Path.{sym, ◌∙◌}
use borrow.Author.Tests.{eq-eqb}
use Rattle.layout.specs.Columns.{columns}
use Rattle.layout.specs.MarkedReading.{mark_count}
use Rattle.layout.proofs.Bare.{none_held}
use Rattle.validation.proofs.lent.marks_are_sound.Goals as goal

pub returns-then-at-eq0 : goal.returns-then-at-eq0
unfolding mark_count
returns-then-at-eq0 c =
    eq-eqb _ 0 c.if-at-eq0.true ∙ sym (none_held (columns c.args.store.now) (sym c.at.ensures ∙ c.if-at-eq0.true) c.requires.ruled)
