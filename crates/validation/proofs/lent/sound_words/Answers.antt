-- `sound_words` meets its contract: words of another length are not sound, and the others are tested. Assumes nothing.
use mathlib.Core.Path.{sym, ap, ◌∙◌}
use Rattle.layout.specs.MarkedReading.{sound_lent}
use Rattle.validation.proofs.Marks.{long_unsound}
use Rattle.validation.proofs.lent.sound_words.Goals as goal

pub returns-in_err-words : goal.returns-in_err-words
returns-in_err-words c = rw c.from_residual.ensures (long_unsound c.args.store.now c.in_err-words.ensures.cases)

pub returns-then-not-are_sound : goal.returns-then-not-are_sound
returns-then-not-are_sound c =
    ap sound_lent (sym c.in_ok-words.ensures.cases.same) ∙ sym c.are_sound.ensures ∙ c.if-not-are_sound.true

pub returns : goal.returns
returns c =
    let w = c.in_ok-words.ensures.cases.same in
    (w, ap sound_lent (sym w) ∙ sym c.are_sound.ensures ∙ c.if-not-are_sound.false)
