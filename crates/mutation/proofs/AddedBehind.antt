-- What the calls that add write stands before the columns of marks and of the journal, and behind the rows that were there: so what marks rest on is as it was. Assumes nothing.
use Prim.Native.Nat.{ℕ, suc, ◌+◌, ◌<◌, ◌≤◌}
use native.Mathlib.Omega.{arith}
use mathlib.Core.Bool.{true}
use mathlib.Core.List.{List, [], ◌∷◌}
use mathlib.Core.Path.{◌≡◌, refl, ◌∙◌}
use borrow.Author.Tests.{ne_eqb}
use lib.Dec.{leb}
use lib.ListN.{length}
use Rattle.rules.specs.declared.types.Owner.{Owner}
use Rattle.layout.specs.Columns.{Cols, at, write, counts, region_op, region_block_first, region_block_end, value_type, value_owner, block_next}
use Rattle.layout.proofs.Buffer.{write_other, write_range_other}
use Rattle.mutation.specs.Doing.{Behind}
use Rattle.mutation.proofs.Behind.{apart}
use Rattle.mutation.specs.AddedWrites.{with_row, with_values, with_regions, with_slice}
use Rattle.mutation.proofs.Grew.{Grew}

-- ---- a column behind those that are written

pub row_behind : (C : Cols) (k n : ℕ) (vs : List ℕ) (j : ℕ) → k + length vs ≤ j → with_row C k n vs j ≡ C j
unfolding with_row
row_behind C k n [] j l = refl
row_behind C k n (v ∷ vs) j l = row_behind (write C k n v) (suc k) n vs j (omega arith) ∙ write_other C k n v j (ne_eqb j k (λ e. omega arith))

pub count_behind : (C : Cols) (j : ℕ) → block_next < j → (c v : ℕ) → write C counts c v j ≡ C j
count_behind C j l c v = write_other C counts c v j (apart j l counts refl)

module _ (C : Cols) (j : ℕ) (l : block_next < j) where
  pub regions_behind : (n regions : ℕ) → with_regions C n regions j ≡ C j
  unfolding with_regions
  regions_behind n regions =
      count_behind _ j l 2 _
      ∙ write_range_other _ region_block_end _ _ j (apart j l region_block_end refl)
      ∙ write_range_other _ region_block_first _ _ j (apart j l region_block_first refl)
      ∙ write_range_other C region_op _ _ j (apart j l region_op refl)

  pub values_behind : (w : Owner) (types : List ℕ) → with_values C w types j ≡ C j
  unfolding with_values
  values_behind w types =
      count_behind _ j l 3 _
      ∙ write_range_other _ value_owner _ _ j (apart j l value_owner refl)
      ∙ write_range_other C value_type _ _ j (apart j l value_type refl)

  pub slice_behind : (k c : ℕ) (xs : List ℕ) → leb k block_next ≡ true → with_slice C k c xs j ≡ C j
  unfolding with_slice
  slice_behind k c xs e = count_behind _ j l c _ ∙ write_range_other C k _ xs j (apart j l k e)

-- ---- columns that grew

pub grew_behind : (C D : Cols) → Grew C D → ((k : ℕ) → block_next < k → D k ≡ C k) → at D counts 7 ≡ at C counts 7 → Behind C D
grew_behind C D g words marks = record { words = words; marks = marks; regions = g.region_end; results = g.result_end; arguments = g.argument_end }
