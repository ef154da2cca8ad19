-- The rows from one on, and what stands before them: where the journal and the counts end. Assumes nothing.
use Prim.Native.Nat.{ℕ, zero, suc, ◌-◌, ◌<◌, ◌≤◌}
use native.Mathlib.Omega.{arith}
use mathlib.Core.Bool.{true}
use mathlib.Core.List.{List, [], ◌∷◌}
use mathlib.Core.Path.{◌≡◌, refl, ap, subst}
use lib.ListN.{length}
use Rattle.rules.specs.Store.{Store}
use Rattle.layout.specs.Columns.{Cols}
use Rattle.layout.specs.Reading.{tabulate, tabulate_from}
use Rattle.layout.specs.Journal.{Entry, Counts, counts_of, counts_within, no_counts, MarkRow, store_before}
use Rattle.layout.specs.MarkedReading.{mark_count, row_at, rows_of}
use Rattle.undo_log.proofs.CountsWithin.{within_none}
use Rattle.undo_log.proofs.MarkRows.{Rising, Steps, rising_end, rising_from}
use Rattle.undo_log.proofs.KeptBack.{counts_then}

-- ---- the rows

module _ (C : Cols) where
  unfoldable pub younger : ℕ → List MarkRow
  younger i = tabulate_from i (mark_count C - i) (row_at C)

  pub younger_none : younger (mark_count C) ≡ []
  unfolding younger tabulate_from
  younger_none = let e : mark_count C - mark_count C ≡ 0 = omega arith in ap (λ (n : ℕ). tabulate_from (mark_count C) n (row_at C)) e

  pub younger_next : (i : ℕ) → i < mark_count C → younger i ≡ row_at C i ∷ younger (suc i)
  unfolding younger tabulate_from
  younger_next i l = let e : mark_count C - i ≡ suc (mark_count C - suc i) = omega arith in ap (λ (n : ℕ). tabulate_from i n (row_at C)) e

  pub younger_all : younger 0 ≡ rows_of C
  unfolding younger rows_of tabulate
  younger_all = let e : mark_count C - 0 ≡ mark_count C = omega arith in ap (λ (n : ℕ). tabulate_from 0 n (row_at C)) e

-- ---- up to them

-- the place of the first of these rows; this one where there is none
unfoldable pub place_or : ℕ → List MarkRow → ℕ
place_or n [] = n
place_or n (r ∷ rs) = r.place

unfoldable pub counts_or : Counts → List MarkRow → Counts
counts_or most [] = most
counts_or most (r ∷ rs) = r.counts

module _ (n : ℕ) (most : Counts) where
  pub rising_of : (place : ℕ) (counts : Counts) (rs : List MarkRow) → Rising 0 no_counts n most rs → place ≤ place_or n rs → counts_within counts (counts_or most rs) ≡ true
      → Rising place counts n most rs
  unfolding place_or counts_or
  rising_of place counts [] p l w = (l, w)
  rising_of place counts (r ∷ rs) p l w = (l, w, p.2)

  pub rising_head : (place : ℕ) (counts : Counts) (rs : List MarkRow) → Rising place counts n most rs → (place ≤ place_or n rs) × (counts_within counts (counts_or most rs) ≡ true)
  unfolding place_or counts_or
  rising_head place counts [] p = p
  rising_head place counts (r ∷ rs) p = (p.0, p.1)

  pub place_low : (rs : List MarkRow) → Rising 0 no_counts n most rs → place_or n rs ≤ n
  unfolding place_or
  place_low [] p = omega arith
  place_low (r ∷ rs) p = (rising_end r.place r.counts n most rs p.2).0

  pub rising_more : (r : MarkRow) (rs : List MarkRow) → Rising r.place r.counts n most rs → Rising 0 no_counts n most (r ∷ rs)
  rising_more r rs p = (omega arith, within_none r.counts, p)

module _ (s : Store) (journal : List Entry) where
  pub counts_before : (rs : List MarkRow) → Rising 0 no_counts (length journal) (counts_of s) rs → counts_of (store_before s journal rs) ≡ counts_or (counts_of s) rs
  unfolding store_before counts_or
  counts_before [] p = refl
  counts_before (r ∷ rs) p = counts_then s journal r (rising_end r.place r.counts (length journal) (counts_of s) rs p.2).1

  -- what holds of all rows holds from each on
  pub from_on : (C : Cols) → Rising 0 no_counts (length journal) (counts_of s) (younger C 0) → Steps s journal (younger C 0) → (i : ℕ) → i ≤ mark_count C
      → Rising 0 no_counts (length journal) (counts_of s) (younger C i) × Steps s journal (younger C i)
  from_on C p g zero l = (p, g)
  from_on C p g (suc i) l =
      let z = from_on C p g i (omega arith) in
      let e = younger_next C i (omega arith) in
      let w = subst (λ (rs : List MarkRow). Rising 0 no_counts (length journal) (counts_of s) rs × Steps s journal rs) e z in
      let r = row_at C i in
      (rising_from r.place 0 r.counts no_counts (length journal) (counts_of s) (younger C (suc i)) (omega arith) (within_none r.counts) w.0.2, w.1.2)
