-- What a line that builds does: the outcome of the rules, whatever program it stands in.
use Rattle.std.specs.Prelude as std
use Rattle.std.specs.Prelude.{ℕ, List, [], ◌≡◌, Option, None, Some}
use Rattle.rules.specs.Lines.{Line}
use Rattle.rules.specs.Listings.{Progress, Program, Tally, LineOutcome, prints, stops, line_does}
use Rattle.layout.specs.Columns.{columns}
use Rattle.layout.specs.Reading.{store_in}
use Rattle.rules.specs.Causes.{cause_of}
use Rattle.layout.specs.Soundness.{IsSound}
use Rattle.rules.specs.declared.types.Cause.{Cause}
use Rattle.layout.specs.MarkedReading.{mark_count}

-- nothing is printed, and this is left; or the line is refused
unfoldable pub led_to : Progress → Option Cause → LineOutcome
led_to next None = prints [] next
led_to next (Some cause) = stops cause

pub record LineDid (entry exit : List ℕ) (line : Option Line) (r : std.Result (Unit {0}) Cause) : Type 0 where
  pub does : (p : Program) (t : Tally) → line_does p (record { store = store_in entry; tally = t }) line ≡ led_to (record { store = store_in exit; tally = t }) (cause_of r)
  pub sound : IsSound exit
  pub marks : mark_count (columns exit) ≡ mark_count (columns entry)
  pub unchanged : (cause : Cause) → r ≡ std.Err cause → exit ≡ entry
