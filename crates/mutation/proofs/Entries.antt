-- What a column holds after one word or a run of words of it was written: the words written, and before them those of before. Assumes nothing.
use Prim.Native.Nat.{ℕ, ◌+◌, ◌<◌, ◌≤◌}
use native.Mathlib.Omega.{arith}
use mathlib.Core.List.{List}
use mathlib.Core.Path.{◌≡◌, ap, ◌∙◌}
use lib.ListN.{length, get_or, set}
use lib.Seq.{get_or-set_same, get_or-set_other}
use Rattle.layout.specs.Columns.{Cols, at, pasted}
use Rattle.layout.specs.Reading.{slice}
use Rattle.layout.proofs.Pasted.{pasted_old, pasted_new, slice_old, slice_new}

-- D is C with a word, or a run of words, of column k written at n

pub record Put (C D : Cols) (k n v : ℕ) : Type 0 where
  pub old : (i : ℕ) → i < n → at D k i ≡ at C k i
  pub new : at D k n ≡ v

pub put : (C D : Cols) (k n v : ℕ) → D k ≡ set (C k) n v → n < length (C k) → Put C D k n v
unfolding at
put C D k n v e h =
    record {
      old = λ i l. ap (λ (xs : List ℕ). get_or xs i 0) e ∙ get_or-set_other (C k) n i v 0 (λ q. omega arith);
      new = ap (λ (xs : List ℕ). get_or xs n 0) e ∙ get_or-set_same (C k) n v 0 h;
    }

pub record Run (C D : Cols) (k n : ℕ) (vs : List ℕ) : Type 0 where
  pub old : (i : ℕ) → i < n → at D k i ≡ at C k i
  pub new : (i : ℕ) → i < length vs → at D k (n + i) ≡ get_or vs i 0
  pub slices : (a e : ℕ) → e ≤ n → slice (D k) a e ≡ slice (C k) a e
  pub last : slice (D k) n (n + length vs) ≡ vs

pub run : (C D : Cols) (k n : ℕ) (vs : List ℕ) → D k ≡ pasted (C k) n vs → n + length vs ≤ length (C k) → Run C D k n vs
unfolding at
run C D k n vs e h =
    record {
      old = λ i l. ap (λ (xs : List ℕ). get_or xs i 0) e ∙ pasted_old (C k) n vs h i l;
      new = λ i l. ap (λ (xs : List ℕ). get_or xs (n + i) 0) e ∙ pasted_new (C k) n vs h i l;
      slices = λ a b m. ap (λ (xs : List ℕ). slice xs a b) e ∙ slice_old (C k) n vs h a b m;
      last = ap (λ (xs : List ℕ). slice xs n (n + length vs)) e ∙ slice_new (C k) n vs h;
    }

-- a column that was not written
pub same : (C D : Cols) (k : ℕ) → D k ≡ C k → (i : ℕ) → at D k i ≡ at C k i
unfolding at
same C D k e i = ap (λ (xs : List ℕ). get_or xs i 0) e
