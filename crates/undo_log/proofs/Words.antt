-- What is read from columns that are as they were: rows of marks, entries, and where ranges end. Assumes nothing.
use Prim.Native.Nat.{ℕ, ◌+◌, ◌*◌, ◌≤◌}
use native.Mathlib.Omega.{arith}
use mathlib.Core.Bool.{true, ◌&&◌}
use mathlib.Core.List.{[], ◌∷◌}
use mathlib.Core.Path.{◌≡◌, ap, ap₂, ◌∙◌}
use borrow.Author.Tests.{leb-true}
use lib.Dec.{leb}
use lib.ListN.{length, get_or}
use Rattle.rules.specs.Lists.{every, all_below}
use Rattle.rules.proofs.Basics.Tests.{passed, every_of, all_below_at, all_below_of}
use Rattle.layout.specs.Columns.{Cols, at, op_region_end, op_result_end, block_argument_end, mark_number, mark_place, mark_counts, journal_sort, journal_owner, journal_key, journal_kind, journal_content}
use Rattle.layout.specs.Reading.{op_count, block_count, store_of}
use Rattle.layout.proofs.Tabulate.{ops_length, blocks_length}
use Rattle.mutation.specs.Doing.{Behind}
use Rattle.layout.specs.Journal.{Counts, counts_of, counts_within}
use Rattle.layout.specs.MarkedReading.{entry_from, entry_at, row_counts, row_at, ranges_end}
use Rattle.undo_log.proofs.Standing.{full_at}

module _ (C D : Cols) where
  pub full_same : D mark_number ≡ C mark_number → D mark_place ≡ C mark_place → D mark_counts ≡ C mark_counts → (i : ℕ) → full_at D i ≡ full_at C i
  unfolding full_at row_at row_counts at
  full_same p q r i =
      λ t. record {
        row =
            record {
              number = get_or (p t) i 0;
              counts = record { ops = get_or (r t) (8 * i) 0; blocks = get_or (r t) (8 * i + 1) 0; regions = get_or (r t) (8 * i + 2) 0; values = get_or (r t) (8 * i + 3) 0 };
              place = get_or (q t) i 0;
            };
        operands = get_or (r t) (8 * i + 4) 0;
        successors = get_or (r t) (8 * i + 5) 0;
        attributes = get_or (r t) (8 * i + 6) 0;
      }

  pub entry_same : D journal_sort ≡ C journal_sort → D journal_owner ≡ C journal_owner → D journal_key ≡ C journal_key → D journal_kind ≡ C journal_kind
      → D journal_content ≡ C journal_content → (i : ℕ) → entry_at D i ≡ entry_at C i
  unfolding entry_at at
  entry_same a b c d e i = λ t. entry_from (get_or (a t) i 0) (get_or (b t) i 0) (get_or (c t) i 0) (get_or (d t) i 0) (get_or (e t) i 0)

  pub ranges_same : D op_region_end ≡ C op_region_end → D op_result_end ≡ C op_result_end → D block_argument_end ≡ C block_argument_end → (k : Counts) → ranges_end D k ≡ ranges_end C k
  unfolding ranges_end at
  ranges_same a b c k =
      λ t. every
      (all_below k.ops (λ (n : ℕ). leb (get_or (a t) n 0) k.regions && leb (get_or (b t) n 0) k.values)
      ∷ all_below k.blocks (λ (m : ℕ). leb (get_or (c t) m 0) k.values)
      ∷ [])

  -- where only what was there is as it was
  pub ranges_behind : Behind C D → (k : Counts) → counts_within k (counts_of (store_of C)) ≡ true → ranges_end C k ≡ true → ranges_end D k ≡ true
  unfolding ranges_end counts_within counts_of
  ranges_behind h k w g =
      let p = passed _ g in
      let q = passed _ w in
      let ops : k.ops ≤ op_count C = omega (arith, leb-true k.ops (length (store_of C).ops) q.0, ops_length C) in
      let blocks : k.blocks ≤ block_count C = omega (arith, leb-true k.blocks (length (store_of C).blocks) q.1.0, blocks_length C) in
      every_of _ (
        all_below_of k.ops _
            (λ n l. ap₂ (λ (x y : ℕ). leb x k.regions && leb y k.values) (h.regions n (omega arith)) (h.results n (omega arith)) ∙ all_below_at k.ops _ p.0 n l),
        (all_below_of k.blocks _ (λ m l. ap (λ (x : ℕ). leb x k.values) (h.arguments m (omega arith)) ∙ all_below_at k.blocks _ p.1.0 m l), tt),
      )
