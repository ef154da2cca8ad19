-- What stands behind the old rows of a column is written there, and counted: new regions, new values, and a new slice of a shared list. Each keeps the columns' lengths and the other counts. Assumes nothing.
use Prim.Native.Nat.{ℕ, ◌+◌, ◌<◌, ◌≤◌}
use native.Mathlib.Omega.{arith}
use mathlib.Core.Bool.{false}
use mathlib.Core.List.{List}
use mathlib.Core.Path.{◌≡◌, ap, ◌∙◌}
use lib.Dec.{eqb}
use lib.ListN.{length, get_or, replicate, length-replicate}
use lib.Seq.{get_or-set_same, get_or-set_other}
use Rattle.rules.specs.Store.{max_regions, max_values}
use Rattle.rules.specs.declared.types.Owner.{Owner}
use Rattle.layout.specs.Columns.{Cols, column_size, at, write, write_range, counts, region_op, region_block_first, region_block_end, value_type, value_owner}
use Rattle.layout.specs.Reading.{region_count, value_count, owner_code}
use Rattle.layout.proofs.Laid.{Shaped}
use Rattle.mutation.specs.AddedWrites.{with_values, with_regions, with_slice}
use Rattle.layout.proofs.Buffer.{write_at, write_range_other, write_shaped, write_range_shaped}

-- ---- a count

module _ (C : Cols) (c v : ℕ) where
  pub count_same : Shaped C → c < 8 → at (write C counts c v) counts c ≡ v
  unfolding at
  count_same sh l = let e : length (C counts) ≡ 8 = sh counts in ap (λ (xs : List ℕ). get_or xs c 0) (write_at C counts c v) ∙ get_or-set_same (C counts) c v 0 (omega arith)

  pub count_other : (j : ℕ) → (j ≡ c → ⊥) → at (write C counts c v) counts j ≡ at C counts j
  unfolding at
  count_other j ne = ap (λ (xs : List ℕ). get_or xs j 0) (write_at C counts c v) ∙ get_or-set_other (C counts) c j v 0 ne

-- ---- new regions

module _ (C : Cols) (n regions : ℕ) (sh : Shaped C) (room : region_count C + regions ≤ max_regions) where
  regions_written : Shaped (write_range (write_range (write_range C region_op (region_count C) (replicate regions n)) region_block_first (region_count C) (replicate regions 0)) region_block_end (region_count C) (replicate regions 0))
  regions_written =
      let l : (v : ℕ) → region_count C + length (replicate regions v) ≤ 256 = λ v. rw length-replicate room in
      write_range_shaped _ region_block_end _ _ (write_range_shaped _ region_block_first _ _ (write_range_shaped C region_op _ _ sh (l n)) (l 0)) (l 0)

  pub regions_shaped : Shaped (with_regions C n regions)
  unfolding with_regions
  regions_shaped = write_shaped _ counts 2 _ regions_written

  pub regions_count : at (with_regions C n regions) counts 2 ≡ region_count C + regions
  unfolding with_regions
  regions_count = count_same _ 2 _ regions_written (omega arith)

  pub regions_counts : (j : ℕ) → (j ≡ 2 → ⊥) → at (with_regions C n regions) counts j ≡ at C counts j
  unfolding with_regions write_range at
  regions_counts j ne = count_other (write_range (write_range (write_range C region_op (region_count C) (replicate regions n)) region_block_first (region_count C) (replicate regions 0)) region_block_end (region_count C) (replicate regions 0)) 2 (region_count C + regions) j ne

-- ---- new values

module _ (C : Cols) (w : Owner) (types : List ℕ) (sh : Shaped C) (room : value_count C + length types ≤ max_values) where
  values_written : Shaped (write_range (write_range C value_type (value_count C) types) value_owner (value_count C) (replicate (length types) (owner_code w)))
  values_written = write_range_shaped _ value_owner _ _ (write_range_shaped C value_type _ _ sh room) (rw length-replicate room)

  pub values_shaped : Shaped (with_values C w types)
  unfolding with_values
  values_shaped = write_shaped _ counts 3 _ values_written

  pub values_count : at (with_values C w types) counts 3 ≡ value_count C + length types
  unfolding with_values
  values_count = count_same _ 3 _ values_written (omega arith)

  pub values_counts : (j : ℕ) → (j ≡ 3 → ⊥) → at (with_values C w types) counts j ≡ at C counts j
  unfolding with_values write_range at
  values_counts j ne = count_other (write_range (write_range C value_type (value_count C) types) value_owner (value_count C) (replicate (length types) (owner_code w))) 3 (value_count C + length types) j ne

-- ---- a new slice of a shared list

module _ (C : Cols) (k c : ℕ) (xs : List ℕ) (sh : Shaped C) (room : at C counts c + length xs ≤ column_size k) where
  pub slice_shaped : Shaped (with_slice C k c xs)
  unfolding with_slice
  slice_shaped = write_shaped _ counts c _ (write_range_shaped C k _ xs sh room)

  pub slice_count : c < 8 → at (with_slice C k c xs) counts c ≡ at C counts c + length xs
  unfolding with_slice
  slice_count l = count_same _ c _ (write_range_shaped C k _ xs sh room) l

  pub slice_counts : eqb counts k ≡ false → (j : ℕ) → (j ≡ c → ⊥) → at (with_slice C k c xs) counts j ≡ at C counts j
  unfolding with_slice at
  slice_counts e j ne = count_other (write_range C k (at C counts c) xs) c (at C counts c + length xs) j ne ∙ ap (λ (l : List ℕ). get_or l j 0) (write_range_other C k (at C counts c) xs counts e)
