-- What a call on a marked store does to a lent buffer, good or refused.
use Rattle.rules.specs.declared.types.Cause.{Cause}
use Rattle.std.specs.Prelude.{ℕ, List, ◌≡◌}
use Rattle.rules.specs.Building.{Built, refused}
use Rattle.rules.specs.Marks.{MarkedCall, marked_answer, marked}
use Rattle.layout.specs.MarkedReading.{marked_in, IsLent}

-- a call on a lent buffer: the answer and the marked store afterwards are the rules', the buffer may be lent again, and a refused call has
-- changed no word
pub record PerformsMarked (entry exit : List ℕ) (c : MarkedCall) (r : Built) : Type 0 where
  pub answered : r ≡ marked_answer (marked_in entry) c
  pub reads : marked_in exit ≡ marked (marked_in entry) c
  pub sound : IsLent exit
  pub unchanged : (cause : Cause) → r ≡ refused cause → exit ≡ entry
