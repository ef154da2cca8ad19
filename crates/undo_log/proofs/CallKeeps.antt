-- What a building call on a lent buffer leaves to marks: their rows, and the ends of the ranges that were there. So each row holds that held, since
-- its snapshot is the same. Assumes nothing.
use Prim.Native.Nat.{ℕ, ◌+◌, ◌*◌, ◌<◌, ◌≤◌}
use native.Mathlib.Omega.{arith}
use mathlib.Core.Bool.{Bool, true, ◌&&◌}
use mathlib.Core.List.{List, [], ◌∷◌, ◌++◌, Memᴰ}
use Rattle.std.specs.Prelude.{None}
use mathlib.Core.Path.{◌≡◌, ap, ap₂, subst, ◌∙◌}
use borrow.Author.Tests.{leb-true}
use lib.Dec.{eqb, leb}
use lib.ListN.{length, get_or}
use Rattle.rules.specs.Lists.{every}
use Rattle.rules.specs.Store.{Store, sound, operand_total, successor_total, attribute_total}
use Rattle.rules.specs.Building.{Call, tests, first_failed, applied}
use Rattle.rules.proofs.Basics.Tests.{passed}
use Rattle.rules.proofs.Basics.Appended.{mem_get_d}
use Rattle.layout.specs.Columns.{Cols, at, op_region_end, op_result_end, block_argument_end, mark_number, mark_place, mark_counts}
use Rattle.layout.specs.Reading.{tabulate, op_count, block_count, store_of}
use Rattle.layout.proofs.Scans.{below_cong}
use Rattle.layout.proofs.Tabulate.{length_tabulate, get_d_tabulate, ops_length, blocks_length}
use Rattle.layout.specs.Journal.{Counts, counts_of, counts_within, no_counts, snapshot_of, entries_for}
use Rattle.layout.specs.MarkedReading.{mark_count, row_counts, row_at, rows_of, journal_of, ranges_end, totals_kept, row_holds}
use Rattle.undo_log.proofs.MarkRows.{Rising, Between, row_at_lem}
use Rattle.undo_log.proofs.ReadCall.{call_snapshot}

-- the rows of marks, and where ranges end
pub record Kept (C D : Cols) : Type 0 where
  pub marks : mark_count D ≡ mark_count C
  pub numbers : D mark_number ≡ C mark_number
  pub places : D mark_place ≡ C mark_place
  pub counts : D mark_counts ≡ C mark_counts
  pub regions : (n : ℕ) → n < op_count C → at D op_region_end n ≡ at C op_region_end n
  pub results : (n : ℕ) → n < op_count C → at D op_result_end n ≡ at C op_result_end n
  pub arguments : (m : ℕ) → m < block_count C → at D block_argument_end m ≡ at C block_argument_end m

-- ---- one of the rows

mem_tabulate : {A : Type 0} (n : ℕ) (f : ℕ → A) (i : ℕ) → i < n → Memᴰ (f i) (tabulate n f)
mem_tabulate {A} n f i l = subst (λ (x : A). Memᴰ x (tabulate n f)) (get_d_tabulate n f i (f i) l) (mem_get_d (tabulate n f) i (f i) (omega (arith, length_tabulate n f)))

-- a row's counts, of the words of its column
abbrev counts_from : List ℕ → ℕ → Counts
counts_from xs i = record { ops = get_or xs (8 * i) 0; blocks = get_or xs (8 * i + 1) 0; regions = get_or xs (8 * i + 2) 0; values = get_or xs (8 * i + 3) 0 }

module _ (C D : Cols) (k : Kept C D) where
  row_counts_lem : (i : ℕ) → row_counts D i ≡ row_counts C i
  unfolding row_counts at
  row_counts_lem i = ap (λ (xs : List ℕ). counts_from xs i) k.counts

  pub row_kept_lem : (i : ℕ) → row_at D i ≡ row_at C i
  unfolding row_at at
  row_kept_lem i = λ z. record { number = get_or (k.numbers z) i 0; counts = row_counts_lem i z; place = get_or (k.places z) i 0 }

  pub rows_kept : rows_of D ≡ rows_of C
  unfolding rows_of
  rows_kept = λ z. tabulate (k.marks z) (λ (i : ℕ). row_kept_lem i z)

  totals_kept_lem : (i : ℕ) {s t : Store} → s ≡ t → totals_kept D i s ≡ totals_kept C i t
  unfolding totals_kept at
  totals_kept_lem i e =
      λ z. every
      (eqb (get_or (k.counts z) (8 * i + 4) 0) (operand_total (e z))
      ∷ eqb (get_or (k.counts z) (8 * i + 5) 0) (successor_total (e z))
      ∷ eqb (get_or (k.counts z) (8 * i + 6) 0) (attribute_total (e z))
      ∷ [])

  ranges_kept : (a : Counts) → counts_within a (counts_of (store_of C)) ≡ true → ranges_end D a ≡ ranges_end C a
  unfolding ranges_end counts_within counts_of
  ranges_kept a h =
      let p = passed _ h in
      let ops : a.ops ≤ op_count C = subst (λ (n : ℕ). a.ops ≤ n) (ops_length C) (leb-true a.ops _ p.0) in
      let blocks : a.blocks ≤ block_count C = subst (λ (n : ℕ). a.blocks ≤ n) (blocks_length C) (leb-true a.blocks _ p.1.0) in
      ap₂ (λ (x y : Bool). every (x ∷ y ∷ []))
      (below_cong a.ops _ _ (λ n l. ap₂ (λ (x y : ℕ). leb x a.regions && leb y a.values) (k.regions n (omega arith)) (k.results n (omega arith))))
      (below_cong a.blocks _ _ (λ m l. ap (λ (x : ℕ). leb x a.values) (k.arguments m (omega arith))))

  -- the same snapshot, so the row holds as it did
  pub row_same : (i : ℕ) → snapshot_of (store_of D) (journal_of D) (row_at D i) ≡ snapshot_of (store_of C) (journal_of C) (row_at C i)
      → counts_within (row_counts C i) (counts_of (store_of C)) ≡ true → row_holds D i ≡ row_holds C i
  unfolding row_holds
  row_same i e w = ap₂ ◌&&◌ (totals_kept_lem i e) (ap (ranges_end D) (row_counts_lem i) ∙ ranges_kept (row_counts C i) w)

  -- each row has its place in the journal, and counts no more than there is
  pub row_between : Rising 0 no_counts (length (journal_of C)) (counts_of (store_of C)) (rows_of C) → (i : ℕ) → i < mark_count C
      → Between 0 no_counts (length (journal_of C)) (counts_of (store_of C)) (row_at C i)
  unfolding rows_of
  row_between rising i l = row_at_lem 0 no_counts _ _ (rows_of C) rising (mem_tabulate (mark_count C) (row_at C) i l)

  module _ (c : Call) (h : sound (store_of C) ≡ true) (f : first_failed (tests (store_of C) c) ≡ None) (reads : store_of D ≡ applied (store_of C) c) (journal : journal_of D ≡ journal_of C ++ entries_for (store_of C) c) where
    pub row_holds_lem : Rising 0 no_counts (length (journal_of C)) (counts_of (store_of C)) (rows_of C) → (i : ℕ) → i < mark_count C → row_holds D i ≡ row_holds C i
    unfolding row_at
    row_holds_lem rising i l =
        let b = row_between rising i l in
        row_same i ((λ z. snapshot_of (reads z) (journal z) (row_kept_lem i z)) ∙ call_snapshot (store_of C) c h f (journal_of C) (row_at C i) b.to b.fewer) b.fewer
