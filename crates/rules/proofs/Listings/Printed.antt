-- What a listing prints is what its lines print, one behind the other, and then the end: so it is line by line, whether a line goes on or is
-- refused. Assumes nothing.
use Prim.Native.Nat.{ℕ, suc}
use mathlib.Core.List.{List, [], ◌∷◌, ◌++◌, append_assoc}
use Rattle.std.specs.Prelude.{Option}
use mathlib.Core.Path.{◌≡◌, refl, sym, ap, ◌∙◌}
use Rattle.rules.specs.declared.types.Edition.{Edition}
use Rattle.rules.specs.Listings.{Program, Progress, at_start, LineOutcome, prints, stops, does, proceed, at_end, run, edition, keeps, leaves, unless, listed, twins_program, twins}
use Rattle.rules.specs.Printing.{outputs_then, outputs, Refusal, refused_then, refused_line, first_refusal, ending, left_by, lines_in, ListingPrints, SharePrinted}

run_prints : (p : Program) (e : Edition) (n : ℕ) (now : Progress) (lines : List (List ℕ)) (rest : List ℕ)
    → run p e n now lines rest ≡ outputs p e now lines ++ ending p (leaves p e now lines) (refused_line p e n now lines rest)
unfolding run at_end outputs leaves refused_line ending proceed outputs_then keeps refused_then
run_prints p e n now [] [] = refl
run_prints p e n now [] (x ∷ rest) = refl
run_prints p e n now (line ∷ lines) rest = go (does p e now line) (λ next. run_prints p e (suc n) next lines rest)
  where
    go : (o : LineOutcome)
        → ((next : Progress) → run p e (suc n) next lines rest ≡ outputs p e next lines ++ ending p (leaves p e next lines) (refused_line p e (suc n) next lines rest))
        → proceed o n (λ next. run p e (suc n) next lines rest)
        ≡ outputs_then o (λ next. outputs p e next lines)
        ++ ending p (keeps o now (λ next. leaves p e next lines)) (refused_then o n (λ next. refused_line p e (suc n) next lines rest))
    go (prints out next) h = ap (λ (xs : List ℕ). out ++ xs) (h next) ∙ sym (append_assoc out (outputs p e next lines) _)
    go (stops cause) h = refl

pub listing_prints : ListingPrints
unfolding ListingPrints listed unless left_by first_refusal lines_in
listing_prints p bytes first = rw first (run_prints p _ 2 _ _ _)

pub share_printed : SharePrinted
unfolding SharePrinted ListingPrints twins ending twins_program
share_printed bytes first unrefused =
    listing_prints twins_program bytes first
    ∙ ap (λ (o : Option Refusal). outputs twins_program (edition bytes) at_start (lines_in bytes) ++ ending twins_program (left_by twins_program bytes) o) unrefused
