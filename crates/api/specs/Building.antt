-- What an offered call on a marked store gives, for every buffer.
use Rattle.std.specs.Prelude.{ℕ, true, cond, List, ◌≡◌}
use Rattle.rules.specs.declared.types.Cause.{Cause}
use Rattle.rules.specs.declared.types.Cause.TheVariants.{NotSound}
use Rattle.rules.specs.Building.{Built, refused}
use Rattle.rules.specs.Marks.{MarkedCall, marked_answer, marked}
use Rattle.layout.specs.MarkedReading.{marked_in, sound_lent}

-- a buffer that is not sound is refused first
pub record CallAnswers (entry exit : List ℕ) (c : MarkedCall) (r : Built) : Type 0 where
  pub answered : r ≡ cond (sound_lent entry) (marked_answer (marked_in entry) c) (refused NotSound)
  pub reads : sound_lent entry ≡ true → marked_in exit ≡ marked (marked_in entry) c
  pub sound : sound_lent entry ≡ true → sound_lent exit ≡ true
  pub unchanged : (cause : Cause) → r ≡ refused cause → exit ≡ entry
