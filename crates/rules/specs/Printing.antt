-- What a listing prints, in parts: what its lines print, one behind the other, and then what stands at the end: what the program prints
-- behind the last line, or the refusal of a line.
use Rattle.rules.specs.declared.types.Cause.{Cause}
use Rattle.rules.specs.declared.types.Cause.TheVariants.{BadLength}
use Rattle.std.specs.Prelude.{ℕ, suc, List, [], ◌∷◌, ◌++◌, ◌≡◌, Option, None, Some}
use Rattle.rules.specs.Bytes.{line_feed, cut_at}
use Rattle.rules.specs.declared.types.Edition.{Edition}
use Rattle.rules.specs.Listings.{Program, Progress, at_start, LineOutcome, prints, stops, does, refusal, behind_first, edition, leaves, listing_cause, listed, twins_program, twins, share, share_line}

-- the lines behind the first
unfoldable pub lines_in : List ℕ → List (List ℕ)
lines_in bytes = behind_first (cut_at line_feed bytes).whole

-- ---- what the lines print

unfoldable pub outputs_then : LineOutcome → (Progress → List ℕ) → List ℕ
outputs_then (prints out next) more = out ++ more next
outputs_then (stops cause) more = []

unfoldable pub outputs : Program → Edition → Progress → List (List ℕ) → List ℕ
outputs p e now [] = []
outputs p e now (line ∷ lines) = outputs_then (does p e now line) (λ next. outputs p e next lines)

-- ---- the line that is refused, and its cause

pub record Refusal : Type 0 where
  pub line : ℕ
  pub cause : Cause

unfoldable pub refused_then : LineOutcome → ℕ → (Progress → Option Refusal) → Option Refusal
refused_then (prints out next) n more = more next
refused_then (stops cause) n more = Some (record { line = n; cause = cause })

-- of lines from number n on, and of bytes behind the last line feed
unfoldable pub refused_line : Program → Edition → ℕ → Progress → List (List ℕ) → List ℕ → Option Refusal
refused_line p e n now [] [] = None
refused_line p e n now [] (x ∷ rest) = Some (record { line = n; cause = BadLength })
refused_line p e n now (line ∷ lines) rest = refused_then (does p e now line) n (λ next. refused_line p e (suc n) next lines rest)

-- the refusal of a listing whose first line is not refused, if there is one
unfoldable pub first_refusal : Program → List ℕ → Option Refusal
first_refusal p bytes = refused_line p (edition bytes) 2 at_start (lines_in bytes) (cut_at line_feed bytes).rest

-- ---- the end

unfoldable pub ending : Program → Progress → Option Refusal → List ℕ
ending p now None = p.close now
ending p now (Some r) = refusal r.line r.cause

-- what the lines have left
unfoldable pub left_by : Program → List ℕ → Progress
left_by p bytes = leaves p (edition bytes) at_start (lines_in bytes)

-- a refused line ends either program, and what was printed before stands: `listing_prints`
unfoldable pub ListingPrints : Type 0
ListingPrints =
    (p : Program) (bytes : List ℕ) → listing_cause bytes ≡ None
    → listed p bytes ≡ outputs p (edition bytes) at_start (lines_in bytes) ++ ending p (left_by p bytes) (first_refusal p bytes)

-- a listing without a refusal prints its answers and then the share of what its lines have counted (`CountedExactly` says what that is): `share_printed`
unfoldable pub SharePrinted : Type 0
SharePrinted =
    (bytes : List ℕ) → listing_cause bytes ≡ None → first_refusal twins_program bytes ≡ None
    → twins bytes ≡ outputs twins_program (edition bytes) at_start (lines_in bytes) ++ share_line (share (left_by twins_program bytes).tally)
