-- The counts of a mark's row, and those of the tables, word by word. Assumes nothing.
use Prim.Native.Nat.{ℕ, ◌+◌, ◌*◌, ◌≤◌}
use native.Mathlib.Omega.{arith}
use mathlib.Core.Bool.{Bool, true, false, cond}
use mathlib.Core.List.{[], ◌∷◌}
use mathlib.Core.Path.{◌≡◌, refl}
use borrow.Author.Tests.{ltb-false}
use lib.Dec.{leb, ltb}
use Rattle.std.specs.Option.{unwrap_or}
use Rattle.std.specs.Prelude.{Some, None}
use Rattle.rules.specs.Lists.{every}
use Rattle.layout.specs.Columns.{Cols, at, counts, mark_counts}
use Rattle.layout.specs.Reading.{op_count, block_count, region_count, value_count, store_of}
use Rattle.layout.proofs.Tabulate.{length_tabulate, ops_length, blocks_length, regions_length, values_length}
use Rattle.layout.specs.Journal.{counts_of, counts_within}
use Rattle.layout.specs.MarkedReading.{mark_count, row_counts, row_at, rows_of}
use Rattle.undo_log.specs.MarkWrites.{row_of, row_found}
use Rattle.undo_log.proofs.Sought.{place_most}

module _ (C : Cols) (i : ℕ) where
  abbrev fits : ℕ → Bool
  fits k = leb (at C mark_counts (8 * i + k)) (at C counts k)

  pub within_is : counts_within (row_counts C i) (counts_of (store_of C)) ≡ every (fits 0 ∷ fits 1 ∷ fits 2 ∷ fits 3 ∷ [])
  unfolding counts_within row_counts counts_of op_count block_count region_count value_count
  within_is =
      let e : 8 * i ≡ 8 * i + 0 = omega arith in
      λ t. every
      (leb (at C mark_counts (e t)) (ops_length C t)
      ∷ leb (at C mark_counts (8 * i + 1)) (blocks_length C t)
      ∷ leb (at C mark_counts (8 * i + 2)) (regions_length C t)
      ∷ leb (at C mark_counts (8 * i + 3)) (values_length C t)
      ∷ [])

-- the row of a mark, and how many rows there are where it has none
module _ (C : Cols) (k : ℕ) where
  row_low : row_of C k ≤ mark_count C
  unfolding rows_of
  row_low = omega (arith, place_most k (rows_of C), length_tabulate (mark_count C) (row_at C))

  pub row_placed : unwrap_or (row_found C k) (mark_count C) ≡ row_of C k
  unfolding row_found
  row_placed = go (ltb (row_of C k) (mark_count C)) refl
    where
      go : (b : Bool) → ltb (row_of C k) (mark_count C) ≡ b → unwrap_or (cond b (Some (row_of C k)) None) (mark_count C) ≡ row_of C k
      go true e = refl
      go false e = omega (arith, row_low, ltb-false (row_of C k) (mark_count C) e)
