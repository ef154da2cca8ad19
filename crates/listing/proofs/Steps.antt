-- What a line does, by what it means: the code goes by the same tests as the rules. Assumes nothing.
use Rattle.rules.specs.declared.types.Cause.TheVariants.{BadLength, BadLine}
use Prim.Native.Nat.{ℕ, ◌<◌, ◌≤◌}
use mathlib.Core.Bool.{Bool, cond}
use Rattle.std.specs.Prelude.{Option, None}
use Rattle.std.specs.Prelude as std
use mathlib.Core.List.{List, []}
use mathlib.Core.Path.{◌≡◌, refl, ap, ◌∙◌}
use borrow.Author.Tests.{le-leb, lt-leb}
use lib.ListN.{length}
use Rattle.rules.specs.Lines.{Line, fields_of, letter, parse}
use Rattle.rules.specs.declared.types.Edition.{Edition}
use Rattle.rules.specs.Listings as rules
use Rattle.rules.specs.Listings.{LineOutcome, stops, line_does, does, max_line}
use Rattle.rules.specs.Causes.{cause_of}
use Rattle.layout.specs.Soundness.{IsSound}
use Rattle.rules.specs.declared.types.Cause.{Cause}
use Rattle.listing.specs.Tally.{tally_of}
use Rattle.listing.specs.declared.places.Place.{Place}
use Rattle.lines.specs.declared.writing.LineWriter.{LineWriter}
use Rattle.lines.proofs.Meant.{unlettered}
use Rattle.listing.specs.declared.types.Reading.{Reading}
use Rattle.listing.specs.Progress.{program_of, progress_of}
use Rattle.listing.specs.Building.{led_to, LineDid}
use Rattle.listing.specs.Asking.{step_room, LineResult, outcome_of, Goes, Stepped}
use Rattle.listing.specs.Stepping.{LineDoes}
use Rattle.lines.proofs.Joined.{nothing}

-- ---- steps

pub stopped : (o : LineOutcome) (store : List ℕ) (tally : List Place) (out : LineWriter) (k : Cause) → o ≡ stops k → Stepped o store tally out out (std.Err k)
unfolding outcome_of Goes
stopped o store tally out k e = record { bytes = []; does = e; goes = refl }

pub same_outcome : {o p : LineOutcome} {store : List ℕ} {tally : List Place} {before after : LineWriter} {r : LineResult} → o ≡ p
    → Stepped p store tally before after r → Stepped o store tally before after r
same_outcome e s = record { bytes = s.bytes; does = e ∙ s.does; goes = s.goes }

-- ---- a line by what it means

module _ (p : rules.Program) (e : Edition) (now : rules.Progress) (line : List ℕ) where
  pub too_long_lem : max_line < length line → does p e now line ≡ stops BadLength
  unfolding does
  too_long_lem h = ap (λ (t : Bool). cond t (line_does p now (parse e line)) (stops BadLength)) (lt-leb (length line) max_line h)

  module _ (short : length line ≤ max_line) where
    pub by_meaning : (meant : Option Line) → parse e line ≡ meant → does p e now line ≡ line_does p now meant
    unfolding does
    by_meaning meant q = ap (λ (t : Bool). cond t (line_does p now (parse e line)) (stops BadLength)) (le-leb (length line) max_line short) ∙ ap (line_does p now) q

    pub unlettered_lem : {fs : List (List ℕ)} → fs ≡ fields_of line → letter e fs ≡ None → does p e now line ≡ stops BadLine
    unfolding line_does
    unlettered_lem all h = by_meaning None (unlettered e line all h)

-- ---- what the code does

module _ (how : Reading) (line store : List ℕ) (tally : List Place) (out : LineWriter) (sound : IsSound store) where
  pub line_stopped : (k : Cause) → does (program_of how.program) how.edition (progress_of store tally) line ≡ stops k → LineDoes how line store store tally tally out out (std.Err k)
  line_stopped k e = record { step = stopped _ store tally out k e; sound = sound; marks = refl; unchanged = λ cause q. refl }

  module _ (short : length line ≤ max_line) (meant : Option Line) (e : parse how.edition line ≡ meant) where
    means : does (program_of how.program) how.edition (progress_of store tally) line ≡ line_does (program_of how.program) (progress_of store tally) meant
    means = by_meaning (program_of how.program) how.edition (progress_of store tally) line short meant e

    pub line_asked : (tally' : List Place) (after : LineWriter) (r : LineResult) → Stepped (line_does (program_of how.program) (progress_of store tally) meant) store tally' out after r
        → LineDoes how line store store tally tally' out after r
    line_asked tally' after r s = record { step = same_outcome means s; sound = sound; marks = refl; unchanged = λ cause q. refl }

    led : (exit : List ℕ) (r : std.Result (Unit {0}) Cause) → LineDid store exit meant r
        → does (program_of how.program) how.edition (progress_of store tally) line ≡ led_to (progress_of exit tally) (cause_of r)
    unfolding progress_of
    led exit r did = means ∙ did.does (program_of how.program) (tally_of tally)

    pub line_built : (exit : List ℕ) (r : std.Result (Unit {0}) Cause) → LineDid store exit meant r → LineDoes how line store exit tally tally out out r
    unfolding led_to cause_of outcome_of Goes
    line_built exit (std.Ok u) did =
        record {
          step = record { bytes = []; does = led exit (std.Ok u) did; goes = nothing step_room out };
          sound = did.sound;
          marks = did.marks;
          unchanged = λ cause z. absurd (cc);
        }
    line_built exit (std.Err k) did =
        record {
          step = stopped _ exit tally out k (led exit (std.Err k) did);
          sound = did.sound;
          marks = did.marks;
          unchanged = λ cause z. did.unchanged k refl;
        }
