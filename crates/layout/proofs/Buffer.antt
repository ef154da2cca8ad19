-- The buffer and its columns: the columns stand one behind the other, so a word of the buffer is a word of one column, and what is written to one column leaves the others. Assumes nothing.
use Prim.Native.Nat.{ℕ, zero, suc, ◌+◌, ◌-◌, ◌<◌, ◌≤◌}
use native.Mathlib.Nat.{not-suc-le-zero, le_of_suc-le-suc, add-suc, sub-zero, zero-sub, suc-sub-suc}
use native.Mathlib.Decide.{ℕ_discrete, dec_lt}
use native.Mathlib.Omega.{arith}
use mathlib.Core.Bool.{Bool, true, false, cond}
use mathlib.Core.List.{List, [], ◌∷◌, ◌++◌}
use mathlib.Core.Path.{◌≡◌, refl, sym, ap, ◌∙◌, fun_ext}
use borrow.Author.Tests.{eq-eqb, ne_eqb}
use lib.Dec.{eqb}
use lib.ListN.{length, get_or, set, take, drop, length-drop, length-set}
use lib.Seq.{length-take-le, get_or-take, get_or-drop, drop-set-lt, take-set-le, take-set-lt, drop-set-add, take-nil, take-take, drop-drop, sets, length-sets, sets-eq}
use Rattle.rules.specs.Lists.{sum}
use Rattle.layout.specs.Columns.{Cols, column_sizes, column_size, base, buffer_length, columns, at, write, write_range}
use Rattle.layout.specs.Reading.{slice}
use Rattle.layout.proofs.Laid.{Shaped}

-- ---- where the columns stand

sum_suc : (k : ℕ) (xs : List ℕ) → sum (take (suc k) xs) ≡ sum (take k xs) + get_or xs k 0
unfolding sum
sum_suc zero [] = refl
sum_suc (suc k) [] = refl
sum_suc zero (x ∷ xs) = omega arith
sum_suc (suc k) (x ∷ xs) = omega (arith, sum_suc k xs)

sum_rises : (j k : ℕ) (xs : List ℕ) → j ≤ k → sum (take j xs) ≤ sum (take k xs)
unfolding sum
sum_rises zero k xs h = omega arith
sum_rises (suc j) zero xs h = absurd (not-suc-le-zero h)
sum_rises (suc j) (suc k) [] h = omega arith
sum_rises (suc j) (suc k) (x ∷ xs) h = omega (arith, sum_rises j k xs (le_of_suc-le-suc h))

sum_fits : (k : ℕ) (xs : List ℕ) → sum (take k xs) ≤ sum xs
unfolding sum
sum_fits zero xs = omega arith
sum_fits (suc k) [] = omega arith
sum_fits (suc k) (x ∷ xs) = omega (arith, sum_fits k xs)

pub base_fits : (k : ℕ) → base k + column_size k ≤ buffer_length
unfolding base sum
base_fits k = omega (arith, sum_suc k column_sizes, sum_fits (suc k) column_sizes)

-- a column ends where a later one begins, or before
pub base_before : (j k : ℕ) → j < k → base j + column_size j ≤ base k
unfolding base
base_before j k h = omega (arith, sum_suc j column_sizes, sum_rises (suc j) k column_sizes h)

-- ---- lists

drop_take : {A : Type 0} (a z : ℕ) (l : List A) → drop a (take z l) ≡ take (z - a) (drop a l)
drop_take zero z l = ap (λ (k : ℕ). take k l) (sym (sub-zero z))
drop_take (suc a) zero l = ap (λ (k : ℕ). take k (drop (suc a) l)) (sym (zero-sub (suc a)))
drop_take (suc a) (suc z) [] = sym (take-nil (suc z - suc a))
drop_take (suc a) (suc z) (x ∷ xs) = drop_take a z xs ∙ ap (λ (k : ℕ). take k (drop a xs)) (sym (suc-sub-suc z a))

-- a run of stores, and a slice of the list

module _ {A : Type 0} where
  sets_inside : (a z n : ℕ) (vs l : List A) → n + length vs ≤ z → take z (drop a (sets l (a + n) vs)) ≡ sets (take z (drop a l)) n vs
  sets_inside a z n [] l h = refl
  sets_inside a z n (v ∷ vs) l h =
      ap (λ (i : ℕ). take z (drop a (sets (set l (a + n) v) i vs))) (sym (add-suc a n))
      ∙ sets_inside a z (suc n) vs (set l (a + n) v) (omega arith)
      ∙ ap (λ (r : List A). sets r (suc n) vs) (ap (take z) (drop-set-add a l n v) ∙ take-set-lt z (drop a l) n v (omega arith))

  sets_before : (a z i : ℕ) (vs l : List A) → i + length vs ≤ a → take z (drop a (sets l i vs)) ≡ take z (drop a l)
  sets_before a z i [] l h = refl
  sets_before a z i (v ∷ vs) l h = sets_before a z (suc i) vs (set l i v) (omega arith) ∙ ap (take z) (drop-set-lt a l i v (omega arith))

  sets_after : (a z n : ℕ) (vs l : List A) → z ≤ n → take z (drop a (sets l (a + n) vs)) ≡ take z (drop a l)
  sets_after a z n [] l h = refl
  sets_after a z n (v ∷ vs) l h =
      ap (λ (i : ℕ). take z (drop a (sets (set l (a + n) v) i vs))) (sym (add-suc a n))
      ∙ sets_after a z (suc n) vs (set l (a + n) v) (omega arith)
      ∙ ap (take z) (drop-set-add a l n v) ∙ take-set-le z (drop a l) n v h

-- ---- the columns of a buffer

columns_sets : (b : List ℕ) (k n : ℕ) (vs : List ℕ) → n + length vs ≤ column_size k
    → (j : ℕ) → columns (sets b (base k + n) vs) j ≡ cond (eqb j k) (sets (columns b j) n vs) (columns b j)
unfolding columns
columns_sets b k n vs fits j = go (ℕ_discrete j k)
  where
    other : Dec (j < k) → (j ≡ k → ⊥) → columns (sets b (base k + n) vs) j ≡ columns b j
    other (yes h) ne =
        let i : base k + n ≡ base j + (base k + n - base j) = omega (arith, base_before j k h) in
        ap (λ (m : ℕ). take (column_size j) (drop (base j) (sets b m vs))) i ∙ sets_after (base j) (column_size j) _ vs b (omega (arith, base_before j k h))
    other (no h) ne = sets_before (base j) (column_size j) (base k + n) vs b (omega (arith, base_before k j (omega arith)))

    go : Dec (j ≡ k) → columns (sets b (base k + n) vs) j ≡ cond (eqb j k) (sets (columns b j) n vs) (columns b j)
    go (yes e) = rw (eq-eqb j k e, e) (sets_inside (base k) (column_size k) n vs b fits)
    go (no ne) = rw (ne_eqb j k ne) (other (dec_lt j k) ne)

pub at_columns : (b : List ℕ) (k n : ℕ) → n < column_size k → at (columns b) k n ≡ get_or b (base k + n) 0
unfolding at columns
at_columns b k n h = get_or-take (column_size k) (drop (base k) b) n 0 h ∙ get_or-drop (base k) b n 0

pub slice_columns : (b : List ℕ) (k a e : ℕ) → e ≤ column_size k → slice (columns b k) a e ≡ take (e - a) (drop (base k + a) b)
unfolding columns slice
slice_columns b k a e fits =
    ap (take (e - a)) (drop_take a (column_size k) (drop (base k) b))
    ∙ take-take (e - a) (column_size k - a) (drop a (drop (base k) b)) (omega arith)
    ∙ ap (take (e - a)) (drop-drop a (base k) b)

pub columns_set : (b : List ℕ) (k n v : ℕ) → n < column_size k → columns (set b (base k + n) v) ≡ write (columns b) k n v
unfolding write
columns_set b k n v h = fun_ext (columns_sets b k n (v ∷ []) (omega arith))

-- what is poured into a column of the right length is a run of stores
write_range_sets : (C : Cols) (k n : ℕ) (vs : List ℕ) → n + length vs ≤ column_size k → Shaped C
    → (j : ℕ) → write_range C k n vs j ≡ cond (eqb j k) (sets (C j) n vs) (C j)
unfolding write_range
write_range_sets C k n vs h shaped j = go (ℕ_discrete j k)
  where
    go : Dec (j ≡ k) → write_range C k n vs j ≡ cond (eqb j k) (sets (C j) n vs) (C j)
    go (yes e) = rw (eq-eqb j k e) (sym (sets-eq vs (C j) n (omega (arith, shaped j, ap column_size e))))
    go (no ne) = rw (ne_eqb j k ne) refl

pub columns_shaped : (b : List ℕ) → length b ≡ buffer_length → Shaped (columns b)
unfolding columns
columns_shaped b long k = length-take-le (column_size k) (drop (base k) b) (omega (arith, length-drop (base k) b, base_fits k))

pub columns_run : (b : List ℕ) → length b ≡ buffer_length → (k n : ℕ) (vs : List ℕ) → n + length vs ≤ column_size k
    → columns (take (base k + n) b ++ vs ++ drop (base k + n + length vs) b) ≡ write_range (columns b) k n vs
columns_run b long k n vs h =
    ap columns (sym (sets-eq vs b (base k + n) (omega (arith, base_fits k))))
    ∙ fun_ext (λ (j : ℕ). columns_sets b k n vs h j ∙ sym (write_range_sets (columns b) k n vs h (columns_shaped b long) j))

-- ---- what is written: in its column, and in no other; and it keeps the columns' lengths

pub write_at : (C : Cols) (k n v : ℕ) → write C k n v k ≡ set (C k) n v
unfolding write
write_at C k n v = rw (eq-eqb k k refl) refl

pub write_other : (C : Cols) (k n v j : ℕ) → eqb j k ≡ false → write C k n v j ≡ C j
unfolding write
write_other C k n v j e = rw e

pub write_range_other : (C : Cols) (k n : ℕ) (vs : List ℕ) (j : ℕ) → eqb j k ≡ false → write_range C k n vs j ≡ C j
unfolding write_range
write_range_other C k n vs j e = rw e

cond_length : (t : Bool) (xs ys : List ℕ) → length xs ≡ length ys → length (cond t xs ys) ≡ length ys
cond_length true xs ys e = e
cond_length false xs ys e = refl

pub write_shaped : (C : Cols) (k n v : ℕ) → Shaped C → Shaped (write C k n v)
unfolding write
write_shaped C k n v shaped j = cond_length (eqb j k) _ (C j) (length-set (C j) n v) ∙ shaped j

pub write_range_shaped : (C : Cols) (k n : ℕ) (vs : List ℕ) → Shaped C → n + length vs ≤ column_size k → Shaped (write_range C k n vs)
write_range_shaped C k n vs shaped h j =
    ap length (write_range_sets C k n vs h shaped j) ∙ cond_length (eqb j k) _ (C j) (length-sets (C j) n vs) ∙ shaped j
