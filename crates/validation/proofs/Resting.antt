-- What marks rest on, in tables that are undone and cut: rows, entries, the words of their counts and where ranges end. Assumes nothing.
use Prim.Native.Nat.{ℕ, ◌+◌, ◌*◌, ◌≤◌}
use native.Mathlib.Omega.{arith}
use mathlib.Core.Bool.{Bool, true, ◌&&◌}
use mathlib.Core.List.{List, [], ◌∷◌}
use mathlib.Core.Path.{◌≡◌, sym, ap, ap₂, ◌∙◌}
use borrow.Author.Tests.{leb-true}
use lib.Dec.{eqb, leb}
use lib.ListN.{length, get_or}
use Rattle.rules.specs.Lists.{every}
use Rattle.rules.specs.Store.{Store, operand_total, successor_total, attribute_total}
use Rattle.rules.proofs.Basics.Tests.{passed}
use Rattle.layout.specs.Columns.{Cols, at, mark_number, mark_place, mark_counts, journal_sort, journal_owner, journal_key, journal_kind, journal_content}
use Rattle.layout.specs.Reading.{tabulate, op_count, block_count, store_of}
use Rattle.layout.proofs.Scans.{below_cong}
use Rattle.layout.proofs.Tabulate.{ops_length, blocks_length, tabulate_cong}
use Rattle.mutation.specs.Doing.{Behind}
use Rattle.layout.specs.Journal.{Counts, counts_of, counts_within}
use Rattle.layout.specs.MarkedReading.{mark_count, entry_at, row_at, rows_of, ranges_end, totals_kept}
use Rattle.undo_log.specs.CutBack.{MarksKept}
use Rattle.undo_log.proofs.Standing.{Full, full_at}
use Rattle.undo_log.proofs.Words.{full_same, entry_same}

-- there are no more operations and blocks here than there
pub fewer_ops : (C D : Cols) → counts_within (counts_of (store_of D)) (counts_of (store_of C)) ≡ true → (op_count D ≤ op_count C) × (block_count D ≤ block_count C)
unfolding counts_within counts_of
fewer_ops C D w =
    let p = passed _ w in (
      omega (arith, leb-true (length (store_of D).ops) (length (store_of C).ops) p.0, ops_length C, ops_length D),
      omega (arith, leb-true (length (store_of D).blocks) (length (store_of C).blocks) p.1.0, blocks_length C, blocks_length D),
    )

module _ (C D : Cols) (h : Behind C D) where
  pub row_rests : (i : ℕ) → row_at D i ≡ row_at C i
  unfolding full_at
  row_rests i =
      ap (λ (x : Full). x.row)
      (full_same C D (h.words mark_number (omega arith)) (h.words mark_place (omega arith)) (h.words mark_counts (omega arith)) i)

  pub rows_rest : rows_of D ≡ rows_of C
  unfolding rows_of mark_count
  rows_rest = ap (λ (n : ℕ). tabulate n (row_at D)) h.marks ∙ tabulate_cong (mark_count C) (row_at D) (row_at C) (λ i l. row_rests i)

  pub entries_rest : (n : ℕ) → tabulate n (entry_at D) ≡ tabulate n (entry_at C)
  entries_rest n =
      tabulate_cong n (entry_at D) (entry_at C)
      (λ i l.
      entry_same C D (h.words journal_sort (omega arith)) (h.words journal_owner (omega arith)) (h.words journal_key (omega arith)) (h.words journal_kind (omega arith))
      (h.words journal_content (omega arith)) i)

  pub totals_rest : (i : ℕ) (s : Store) → totals_kept D i s ≡ totals_kept C i s
  unfolding totals_kept at
  totals_rest i s =
      let w = h.words mark_counts (omega arith) in
      λ t. every
      (eqb (get_or (w t) (8 * i + 4) 0) (operand_total s)
      ∷ eqb (get_or (w t) (8 * i + 5) 0) (successor_total s)
      ∷ eqb (get_or (w t) (8 * i + 6) 0) (attribute_total s)
      ∷ [])

  pub ranges_rest : (k : Counts) → counts_within k (counts_of (store_of C)) ≡ true → ranges_end D k ≡ ranges_end C k
  unfolding ranges_end counts_within counts_of
  ranges_rest k w =
      let q = passed _ w in
      let ops : k.ops ≤ op_count C = omega (arith, leb-true k.ops (length (store_of C).ops) q.0, ops_length C) in
      let blocks : k.blocks ≤ block_count C = omega (arith, leb-true k.blocks (length (store_of C).blocks) q.1.0, blocks_length C) in
      ap₂ (λ (x y : Bool). every (x ∷ y ∷ []))
      (below_cong k.ops _ _
      (λ n l. ap₂ (λ (x y : ℕ). leb x k.regions && leb y k.values) (h.regions n (omega arith)) (h.results n (omega arith))))
      (below_cong k.blocks _ _ (λ m l. ap (λ (x : ℕ). leb x k.values) (h.arguments m (omega arith))))

-- undone and then cut, seen from what is left
pub rests_back : (C U T : Cols) → Behind C U → MarksKept U T → counts_within (counts_of (store_of T)) (counts_of (store_of C)) ≡ true → Behind T C
unfolding at
rests_back C U T h g w =
    let f = fewer_ops C T w in
    record {
      words = λ k l. sym (g.words k l ∙ h.words k l);
      marks = sym (g.marks ∙ h.marks);
      regions = λ n l. sym (ap (λ (xs : List ℕ). get_or xs n 0) g.region_ends ∙ h.regions n (omega (arith, f.0)));
      results = λ n l. sym (ap (λ (xs : List ℕ). get_or xs n 0) g.result_ends ∙ h.results n (omega (arith, f.0)));
      arguments = λ m l. sym (ap (λ (xs : List ℕ). get_or xs m 0) g.argument_ends ∙ h.arguments m (omega (arith, f.1)));
    }

-- what is left of what is left
pub rests_on : (C D T : Cols) → Behind D C → Behind T D → counts_within (counts_of (store_of T)) (counts_of (store_of D)) ≡ true → Behind T C
rests_on C D T h g w =
    let f = fewer_ops D T w in
    record {
      words = λ k l. h.words k l ∙ g.words k l;
      marks = h.marks ∙ g.marks;
      regions = λ n l. h.regions n (omega (arith, f.0)) ∙ g.regions n l;
      results = λ n l. h.results n (omega (arith, f.0)) ∙ g.results n l;
      arguments = λ m l. h.arguments m (omega (arith, f.1)) ∙ g.arguments m l;
    }
