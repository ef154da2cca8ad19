-- Two hashes, asked for before anything is printed: what `sums` does for a `q`. Assumes nothing.
use Prim.Native.Nat.{ℕ}
use native.Mathlib.Omega.{arith}
use mathlib.Core.Bool.{true}
use mathlib.Core.List.{List, []}
use Rattle.std.specs.Prelude.{Some}
use mathlib.Core.Path.{refl}
use Rattle.rules.specs.Listings.{hashes_line, line_does, sums_answer, sums_program}
use Rattle.hashing.specs.Calls.{hashed_of, HashAnswers}
use Rattle.std.specs.Prelude as std
use Rattle.rules.specs.declared.types.Cause.{Cause}
use Rattle.listing.specs.declared.places.Place.{Place}
use Rattle.lines.specs.Parsing.{query_of}
use Rattle.lines.specs.Writing.{Writes}
use Rattle.lines.specs.Room.{hashes_room}
use Rattle.lines.specs.declared.parsing.Query.{Query}
use Rattle.lines.specs.declared.writing.LineWriter.{LineWriter}
use Rattle.listing.specs.Progress.{progress_of}
use Rattle.listing.specs.Asking.{LineResult, outcome_of, Goes, Stepped}
use Rattle.lines.proofs.Joined.{within}

-- what a `q` of `sums` results in
abbrev pub Sums : List ℕ → List Place → Query → LineWriter → LineWriter → LineResult → Type 0
Sums b tally q out out' r = Stepped (line_does sums_program (progress_of b tally) (Some (query_of q))) b tally out out' r

module _ (b : List ℕ) (tally : List Place) (q : Query) where
  abbrev pub Left : std.Result ℕ Cause → Type 0
  Left r = HashAnswers true b [] q.ignore q.sort q.left r

  abbrev pub Right : std.Result ℕ Cause → Type 0
  Right r = HashAnswers true b [] q.ignore q.sort q.right r

  -- a right hash is asked for only where the left one is there, and is refused or not whatever is done first
  pub left_stops : (out : LineWriter) {cause : Cause} → Left (std.Err cause) → Sums b tally q out out (std.Err cause)
  unfolding line_does sums_program progress_of sums_answer hashed_of outcome_of Goes
  left_stops out l = record { bytes = []; does = rw l.told refl; goes = refl }

  module _ {v : ℕ} (l : Left (std.Ok v)) where
    pub right_stops : (out : LineWriter) {cause : Cause} → Right (std.Err cause) → Sums b tally q out out (std.Err cause)
    unfolding line_does sums_program progress_of sums_answer hashed_of outcome_of Goes
    right_stops out r = record { bytes = []; does = rw (l.told, r.told) refl; goes = refl }

    pub sums_goes : {w : ℕ} → Right (std.Ok w) → {out out' : LineWriter} → Writes hashes_room (hashes_line v w) out out' → Sums b tally q out out' (std.Ok tt)
    unfolding line_does sums_program progress_of sums_answer hashed_of outcome_of Goes
    sums_goes {w} r writes = record { bytes = hashes_line v w; does = rw (l.told, r.told) refl; goes = within writes (omega arith) }
