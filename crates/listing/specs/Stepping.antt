-- What a line does, and what the lines from one on do.
use Rattle.std.specs.Prelude as std
use Rattle.std.specs.Prelude.{ℕ, ◌≤◌, true, List, [], ◌≡◌}
use Rattle.rules.specs.Bytes.{line_feed}
use Rattle.rules.specs.Listings.{does, run, at_start, leaves, share, share_line, max_output}
use Rattle.rules.specs.Marks.{unmarked}
use Rattle.layout.specs.Columns.{columns}
use Rattle.layout.specs.Soundness.{IsSound}
use Rattle.rules.specs.declared.types.Cause.{Cause}
use Rattle.layout.specs.MarkedReading.{mark_count, marked_in, sound_lent}
use Rattle.equivalence.specs.MappingWords.{empty_words}
use Rattle.listing.specs.Tally.{tally_of}
use Rattle.listing.specs.declared.places.Place.{Place}
use Rattle.lines.specs.Pieces.{pieces_from}
use Rattle.lines.specs.Writing.{Writes}
use Rattle.lines.specs.declared.writing.LineWriter.{LineWriter}
use Rattle.listing.specs.declared.types.Program.{Program}
use Rattle.listing.specs.declared.types.Program.TheVariants.{Twins, Sums}
use Rattle.listing.specs.declared.types.Reading.{Reading}
use Rattle.listing.specs.Asking.{LineResult, Stepped}
use Rattle.listing.specs.Progress.{program_of, progress_of}

-- what is printed behind the last line
unfoldable pub closes : Program → List Place → List ℕ
closes Twins tally = share_line (share (tally_of tally))
closes Sums tally = []

-- ---- one line

-- what lines build on: a sound store without marks
pub record Bare (store : List ℕ) : Type 0 where
  pub sound : IsSound store
  pub unmarked : mark_count (columns store) ≡ 0

-- what the code does for a line, as what the rules' program does
pub record LineDoes (r : Reading) (line store store' : List ℕ) (tally tally' : List Place) (out out' : LineWriter) (did : LineResult) : Type 0 where
  pub step : Stepped (does (program_of r.program) r.edition (progress_of store tally) line) store' tally' out out' did
  pub sound : IsSound store'
  pub marks : mark_count (columns store') ≡ mark_count (columns store)
  pub unchanged : (cause : Cause) → did ≡ std.Err cause → store' ≡ store

-- ---- the lines from a position on, at which the second line begins

-- all that they print is written, and the store is what they leave
pub record Ran (r : Reading) (listing : List ℕ) (from : ℕ) (store mapping : List ℕ) (out out' : LineWriter) : Type 0 where
  pub writes : Writes max_output (run (program_of r.program) r.edition 2 at_start (pieces_from line_feed listing from).whole (pieces_from line_feed listing from).rest) out out'
  pub left : marked_in store ≡ unmarked (leaves (program_of r.program) r.edition at_start (pieces_from line_feed listing from).whole).store
  pub sound : sound_lent store ≡ true
  pub empty : mapping ≡ empty_words
