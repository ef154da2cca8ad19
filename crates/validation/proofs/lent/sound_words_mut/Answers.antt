-- `sound_words_mut` meets its contract: words that are sound are as many as an array has. Assumes nothing.
use mathlib.Core.Path.{refl, sym, ◌∙◌}
use Rattle.validation.proofs.Offering.{sound_cases}
use Rattle.validation.proofs.lent.sound_words_mut.Goals as goal

pub returns : goal.returns
returns c =
    (refl, record { cases = sound_cases c.args.store.now c.as_mut_array.result c.as_mut_array.ensures.cases (sym c.is_sound.ensures ∙ c.if-not-is_sound.false); writes_back = tt })
