-- A row written word by word, one to a column: what is written and what is left to write come to the whole row. Assumes nothing.
use Prim.Native.Nat.{ℕ, suc, ◌+◌, ◌<◌, ◌≤◌}
use native.Mathlib.Omega.{arith}
use mathlib.Core.Bool.{true}
use mathlib.Core.List.{List, [], ◌∷◌}
use mathlib.Core.Path.{◌≡◌, sym, ap, ap₂, ◌∙◌}
use borrow.Author.Tests.{leb-true}
use lib.Dec.{leb}
use lib.ListN.{length, get_or, drop, drop_of_length-le}
use lib.Seq.{drop-cons}
use Rattle.rules.specs.Lists.{all_below}
use Rattle.rules.proofs.Basics.Tests.{all_below_at}
use Rattle.layout.specs.Columns.{Cols, column_size, write}
use Rattle.layout.proofs.Laid.{Shaped}
use Rattle.layout.proofs.Buffer.{write_shaped}
use Rattle.mutation.specs.AddedWrites.{with_row}

pub row_shaped : (C : Cols) (k n : ℕ) (vs : List ℕ) → Shaped C → Shaped (with_row C k n vs)
unfolding with_row
row_shaped C k n [] sh = sh
row_shaped C k n (v ∷ vs) sh = row_shaped (write C k n v) (suc k) n vs (write_shaped C k n v sh)

-- the columns of a row are long enough
pub row_fits_lem : (first count most n : ℕ) → all_below count (λ (j : ℕ). leb most (column_size (first + j))) ≡ true → n < most → (j : ℕ) → j < count → n < column_size (first + j)
row_fits_lem first count most n long l j b =
    let m : most ≤ column_size (first + j) = leb-true most (column_size (first + j)) (all_below_at count (λ (i : ℕ). leb most (column_size (first + i))) long j b) in omega arith

-- ---- turn by turn

module _ (C : Cols) (first n : ℕ) (row : List ℕ) where
  abbrev pub Writing : Cols → ℕ → Type 0
  Writing D j = (j ≤ length row) × (with_row D (first + j) n (drop j row) ≡ with_row C first n row)

  module _ (D : Cols) (j : ℕ) (inv : Writing D j) where
    step : j < length row → with_row D (first + j) n (drop j row) ≡ with_row (write D (first + j) n (get_or row j 0)) (first + (j + 1)) n (drop (j + 1) row)
    unfolding with_row
    step l =
        ap (with_row D (first + j) n) (drop-cons row j 0 l)
        ∙ ap₂ (λ (k m : ℕ). with_row (write D (first + j) n (get_or row j 0)) k n (drop m row))
        (let e : suc (first + j) ≡ first + (j + 1) = omega arith in e) (let e : suc j ≡ j + 1 = omega arith in e)

    pub row_turn : (E : Cols) → j < length row → E ≡ write D (first + j) n (get_or row j 0) → Writing E (j + 1)
    row_turn E l e = (omega arith, ap (λ (X : Cols). with_row X (first + (j + 1)) n (drop (j + 1) row)) e ∙ sym (step l) ∙ inv.1)

    pub row_done : length row ≤ j → D ≡ with_row C first n row
    unfolding with_row
    row_done l = sym (ap (with_row D (first + j) n) (drop_of_length-le row l)) ∙ inv.1
