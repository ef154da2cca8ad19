-- `are_sound` meets its contract: the tables first, and without a mark nothing else. Assumes nothing.
use mathlib.Core.Path.{sym, ◌∙◌}
use borrow.Author.Tests.{eq-eqb}
use Rattle.layout.proofs.Empty.{sound_facts}
use Rattle.layout.specs.MarkedReading.{mark_count}
use Rattle.validation.proofs.Marks.{not_sound, lent_is, lent_bare}
use Rattle.validation.proofs.lent.are_sound.Goals as goal

pub returns-then-at-eq0 : goal.returns-then-at-eq0
unfolding mark_count
returns-then-at-eq0 c =
    eq-eqb _ 0 c.if-at-eq0.true ∙ lent_bare c.args.store.now (sym c.is_sound.ensures ∙ c.if-is_sound.true) (sym c.at.ensures ∙ c.if-at-eq0.true)

pub marks_hold-requires-clause-sound : goal.marks_hold-requires-clause-sound
marks_hold-requires-clause-sound c = sound_facts c.args.store.now (sym c.is_sound.ensures ∙ c.if-is_sound.true)

pub returns-else-at-eq0 : goal.returns-else-at-eq0
returns-else-at-eq0 c = c.marks_hold.ensures ∙ sym (lent_is c.args.store.now (sym c.is_sound.ensures ∙ c.if-is_sound.true))

pub returns-else-is_sound : goal.returns-else-is_sound
returns-else-is_sound c = c.if-is_sound.false ∙ not_sound c.args.store.now (sym c.is_sound.ensures ∙ c.if-is_sound.false)
