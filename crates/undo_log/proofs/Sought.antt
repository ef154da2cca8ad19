-- The row of a mark, sought from the oldest on; and how the rows go on without it. Assumes nothing.
use Prim.Native.Nat.{ℕ, zero, suc, ◌+◌, ◌≤◌}
use native.Mathlib.Omega.{arith}
use mathlib.Core.Bool.{Bool, true, false, cond, not, ◌||◌}
use mathlib.Core.List.{List, [], ◌∷◌, ◌++◌}
use mathlib.Core.Path.{◌≡◌, refl, sym, ap, ap₂, subst, ◌∙◌}
use borrow.Author.Tests.{eqb-true, lt-ltb, le-ltb, ltb-true}
use lib.Dec.{eqb, ltb}
use lib.ListN.{length, get_or, take, drop}
use Rattle.std.specs.List.{position_or_len, position}
use Rattle.std.specs.Prelude.{Some, None}
use Rattle.std.specs.List.{list_all, list_any, filter}
use Rattle.rules.proofs.Basics.Tests.{and_both, or_false_left, or_false_right}
use Rattle.rules.proofs.Basics.Filtered.{filter_whole}
use Rattle.layout.specs.Columns.{Cols, at, mark_number}
use Rattle.layout.specs.Reading.{tabulate, tabulate_from}
use Rattle.layout.proofs.Scans.{same_tests}
use Rattle.layout.proofs.Tabulate.{length_tabulate}
use Rattle.layout.specs.Journal.{MarkRow, row_has_number, rows_without, rows_up_to, row_or}
use Rattle.layout.specs.MarkedReading.{mark_count, row_at, rows_of}
use Rattle.undo_log.proofs.MarkRows.{Numbered}
use Rattle.undo_log.specs.MarkWrites.{place_in, row_of, row_found}

-- ---- the search

-- among the rows' numbers
place_from : (k : ℕ) (f : ℕ → MarkRow) (a n : ℕ)
    → position_or_len (λ (x : ℕ). eqb x k) (tabulate_from a n (λ (i : ℕ). (f i).number)) ≡ place_in k (tabulate_from a n f)
unfolding place_in tabulate_from row_has_number
place_from k f a zero = refl
place_from k f a (suc n) = go (eqb (f a).number k) (place_from k f (suc a) n)
  where
    go : (b : Bool) → position_or_len (λ (x : ℕ). eqb x k) (tabulate_from (suc a) n (λ (i : ℕ). (f i).number)) ≡ place_in k (tabulate_from (suc a) n f)
        → cond (not b) (1 + position_or_len (λ (x : ℕ). eqb x k) (tabulate_from (suc a) n (λ (i : ℕ). (f i).number))) 0 ≡ cond b 0 (suc (place_in k (tabulate_from (suc a) n f)))
    go true e = refl
    go false e = omega (arith, e)

module _ (C : Cols) (k : ℕ) (numbers : List ℕ) (e : numbers ≡ tabulate (mark_count C) (at C mark_number)) where
  sought : position_or_len (λ (x : ℕ). eqb x k) numbers ≡ row_of C k
  unfolding rows_of row_at tabulate
  sought = ap (position_or_len (λ (x : ℕ). eqb x k)) e ∙ place_from k (row_at C) 0 (mark_count C)

  pub position_row : position (λ (x : ℕ). eqb x k) numbers ≡ row_found C k
  unfolding row_found
  position_row =
      ap₂ (λ (i n : ℕ). cond (ltb i n) (Some i) None) sought (ap length e ∙ length_tabulate (mark_count C) (at C mark_number))

-- ---- what stands there

pub place_most : (k : ℕ) (rs : List MarkRow) → place_in k rs ≤ length rs
unfolding place_in
place_most k [] = omega arith
place_most k (r ∷ rs) = go (row_has_number k r) (place_most k rs)
  where
    go : (b : Bool) → place_in k rs ≤ length rs → cond b 0 (suc (place_in k rs)) ≤ suc (length rs)
    go true l = omega arith
    go false l = omega arith

-- a mark is set where its place is that of a row
pub place_set : (k : ℕ) (rs : List MarkRow) → list_any (row_has_number k) rs ≡ ltb (place_in k rs) (length rs)
unfolding place_in
place_set k [] = sym (le-ltb 0 0 (omega arith))
place_set k (r ∷ rs) = go (row_has_number k r) (place_set k rs)
  where
    go : (b : Bool) → list_any (row_has_number k) rs ≡ ltb (place_in k rs) (length rs) → (b || list_any (row_has_number k) rs) ≡ ltb (cond b 0 (suc (place_in k rs))) (suc (length rs))
    go true e = sym (lt-ltb 0 (suc (length rs)) (omega arith))
    go false e =
        let n = place_in k rs in
        let m = length rs in
        e ∙ same_tests (ltb n m) (ltb (suc n) (suc m)) (λ h. lt-ltb (suc n) (suc m) (omega (arith, ltb-true n m h))) (λ h. lt-ltb n m (omega (arith, ltb-true (suc n) (suc m) h)))

pub place_row : (other : MarkRow) (k : ℕ) (rs : List MarkRow) → get_or rs (place_in k rs) other ≡ row_or other k rs
unfolding place_in row_or
place_row other k [] = refl
place_row other k (r ∷ rs) = go (row_has_number k r) (place_row other k rs)
  where
    go : (b : Bool) → get_or rs (place_in k rs) other ≡ row_or other k rs → get_or (r ∷ rs) (cond b 0 (suc (place_in k rs))) other ≡ cond b r (row_or other k rs)
    go true e = refl
    go false e = e

pub place_up_to : (k : ℕ) (rs : List MarkRow) → rows_up_to k rs ≡ take (suc (place_in k rs)) rs
unfolding place_in rows_up_to
place_up_to k [] = refl
place_up_to k (r ∷ rs) = go (row_has_number k r) (place_up_to k rs)
  where
    go : (b : Bool) → rows_up_to k rs ≡ take (suc (place_in k rs)) rs → (r ∷ cond b [] (rows_up_to k rs)) ≡ take (suc (cond b 0 (suc (place_in k rs)))) (r ∷ rs)
    go true e = refl
    go false e = ap (λ (l : List MarkRow). r ∷ l) e

-- ---- without it

none_there : (k : ℕ) (rs : List MarkRow) → list_any (row_has_number k) rs ≡ false → list_all (λ (r : MarkRow). not (row_has_number k r)) rs ≡ true
none_there k [] h = refl
none_there k (r ∷ rs) h =
    and_both (not (row_has_number k r)) _ (ap not (or_false_left (row_has_number k r) (list_any (row_has_number k) rs) h)) (none_there k rs (or_false_right (row_has_number k r) _ h))

only_one : (k : ℕ) (r : MarkRow) (rs : List MarkRow) → row_has_number k r ≡ true → list_any (row_has_number r.number) rs ≡ false
    → filter (λ (q : MarkRow). not (row_has_number k q)) rs ≡ rs
unfolding row_has_number
only_one k r rs t h = filter_whole _ rs (none_there k rs (subst (λ (n : ℕ). list_any (row_has_number n) rs ≡ false) (eqb-true r.number k t) h))

-- the row of the number goes, and no other
pub rows_without_lem : (k : ℕ) (rs : List MarkRow) → Numbered rs → rows_without k rs ≡ take (place_in k rs) rs ++ drop (suc (place_in k rs)) rs
unfolding rows_without place_in
rows_without_lem k [] p = refl
rows_without_lem k (r ∷ rs) p = go (row_has_number k r) refl (rows_without_lem k rs p.2)
  where
    rest : List MarkRow
    rest = filter (λ (q : MarkRow). not (row_has_number k q)) rs

    go : (b : Bool) → row_has_number k r ≡ b → rest ≡ take (place_in k rs) rs ++ drop (suc (place_in k rs)) rs
        → cond (not b) (r ∷ rest) rest ≡ take (cond b 0 (suc (place_in k rs))) (r ∷ rs) ++ drop (suc (cond b 0 (suc (place_in k rs)))) (r ∷ rs)
    go true t e = only_one k r rs t p.1
    go false t e = ap (λ (l : List MarkRow). r ∷ l) e
