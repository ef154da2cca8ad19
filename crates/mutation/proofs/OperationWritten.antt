-- The call that adds an operation, layer by layer: it keeps the columns' lengths, counts what it adds, and writes behind the old rows. Assumes nothing.
use Prim.Native.Nat.{ℕ, ◌+◌, ◌≤◌}
use native.Mathlib.Omega.{arith}
use mathlib.Core.Bool.{false}
use Rattle.std.specs.Prelude.{Option, None, Some}
use mathlib.Core.List.{List}
use mathlib.Core.Path.{◌≡◌, refl, ap, ◌∙◌}
use lib.Dec.{eqb}
use lib.ListN.{length, get_or}
use Rattle.rules.specs.declared.types.Owner.TheVariants.{Op as of_op}
use Rattle.rules.specs.Building.{NewOperation}
use Rattle.layout.specs.Columns.{Cols, column_size, at, write, counts, op_kind, block_op_first, block_op_end, operand_words, successor_words, op_parent, op_next}
use Rattle.layout.specs.Reading.{op_count, region_count, value_count, operand_count, successor_count}
use Rattle.layout.proofs.Buffer.{write_shaped}
use Rattle.layout.proofs.Laid.{Shaped}
use Rattle.mutation.specs.AddedWrites.{with_row, with_values, parent_code, depth_under, op_placed, with_regions, with_slice, op_row, op_written, with_operation}
use Rattle.mutation.proofs.RowWritten.{row_shaped}
use Rattle.mutation.proofs.OperationLaid.{RoomFor}
use Rattle.mutation.proofs.ChildPlaced.{Apart, placed_shaped, placed_other as child_other}
use Rattle.mutation.proofs.Layers.{count_same, count_other, regions_shaped, regions_count, regions_counts, values_shaped, values_count, values_counts, slice_shaped, slice_count, slice_counts}

-- the columns of operations in blocks
pub ops_apart : Apart op_parent op_next block_op_first block_op_end
ops_apart = record { first_end = refl; end_first = refl; first_links = refl; end_links = refl; links_first = refl; links_end = refl }

other_under : (C : Cols) (parent : Option ℕ) (n j : ℕ) → eqb j block_op_first ≡ false → eqb j block_op_end ≡ false → eqb j op_next ≡ false → op_placed C parent n j ≡ C j
unfolding op_placed
other_under C None n j e q r = refl
other_under C (Some b) n j e q r = child_other C op_parent op_next block_op_first block_op_end b (b + 1) n ops_apart j e q r

shaped_under : (C : Cols) (parent : Option ℕ) (n : ℕ) → Shaped C → Shaped (op_placed C parent n)
unfolding op_placed
shaped_under C None n sh = sh
shaped_under C (Some b) n sh = placed_shaped C op_parent op_next block_op_first block_op_end b (b + 1) n ops_apart sh

module _ (C : Cols) (new : NewOperation) where
  -- the operation's row, and its parent's range
  abbrev pub row : Cols
  row = with_row C op_kind (op_count C) (op_row C new.kind (parent_code new.parent) new.location (depth_under C new.parent) new.regions (length new.types) (length new.operands) (length new.successors))

  abbrev pub placed : Cols
  placed = op_placed row new.parent (op_count C)

  -- with its regions, its results, its operands and its successors
  abbrev pub c₁ : Cols
  c₁ = with_regions placed (op_count C) new.regions

  abbrev pub c₂ : Cols
  c₂ = with_values c₁ (of_op (op_count C)) new.types

  abbrev pub c₃ : Cols
  c₃ = with_slice c₂ operand_words 4 new.operands

  abbrev pub c₄ : Cols
  c₄ = with_slice c₃ successor_words 5 new.successors

  abbrev pub made : Cols
  made = with_operation C new

  pub placed_other : (j : ℕ) → eqb j block_op_first ≡ false → eqb j block_op_end ≡ false → eqb j op_next ≡ false → placed j ≡ row j
  placed_other j e q r = other_under row new.parent (op_count C) j e q r

  pub counts_placed : (j : ℕ) → at placed counts j ≡ at C counts j
  unfolding at op_row with_row write
  counts_placed j = ap (λ (l : List ℕ). get_or l j 0) (placed_other counts refl refl refl)

  module _ (sh : Shaped C) (room : RoomFor C new) where
    -- ---- layer by layer

    s₀ : Shaped placed
    s₀ = shaped_under row new.parent (op_count C) (row_shaped C op_kind _ _ sh)

    pub r₁ : region_count placed + new.regions ≤ 256
    unfolding region_count
    r₁ = let e = counts_placed 2 in let r = room.regions in omega arith

    s₁ : Shaped c₁
    s₁ = regions_shaped placed (op_count C) new.regions s₀ r₁

    pub k₁ : (j : ℕ) → (j ≡ 2 → ⊥) → at c₁ counts j ≡ at C counts j
    k₁ j n2 = regions_counts placed (op_count C) new.regions s₀ r₁ j n2 ∙ counts_placed j

    pub r₂ : value_count c₁ + length new.types ≤ 2048
    unfolding value_count
    r₂ = let e = k₁ 3 (λ q. omega arith) in let r = room.values in omega arith

    s₂ : Shaped c₂
    s₂ = values_shaped c₁ (of_op (op_count C)) new.types s₁ r₂

    pub k₂ : (j : ℕ) → (j ≡ 2 → ⊥) → (j ≡ 3 → ⊥) → at c₂ counts j ≡ at C counts j
    k₂ j n2 n3 = values_counts c₁ (of_op (op_count C)) new.types s₁ r₂ j n3 ∙ k₁ j n2

    pub r₃ : at c₂ counts 4 + length new.operands ≤ column_size operand_words
    unfolding operand_count
    r₃ = let e = k₂ 4 (λ q. omega arith) (λ q. omega arith) in let r = room.operands in omega arith

    s₃ : Shaped c₃
    s₃ = slice_shaped c₂ operand_words 4 new.operands s₂ r₃

    pub k₃ : (j : ℕ) → (j ≡ 2 → ⊥) → (j ≡ 3 → ⊥) → (j ≡ 4 → ⊥) → at c₃ counts j ≡ at C counts j
    k₃ j n2 n3 n4 = slice_counts c₂ operand_words 4 new.operands s₂ r₃ refl j n4 ∙ k₂ j n2 n3

    pub r₄ : at c₃ counts 5 + length new.successors ≤ column_size successor_words
    unfolding successor_count
    r₄ = let e = k₃ 5 (λ q. omega arith) (λ q. omega arith) (λ q. omega arith) in let r = room.successors in omega arith

    s₄ : Shaped c₄
    s₄ = slice_shaped c₃ successor_words 5 new.successors s₃ r₄

    pub made_shaped : Shaped made
    unfolding with_operation op_written
    made_shaped = write_shaped c₄ counts 0 (op_count C + 1) s₄

    -- ---- the counts

    after₃ : (j : ℕ) → (j ≡ 0 → ⊥) → (j ≡ 5 → ⊥) → at made counts j ≡ at c₃ counts j
    unfolding with_operation op_written
    after₃ j n0 n5 = count_other c₄ 0 (op_count C + 1) j n0 ∙ slice_counts c₃ successor_words 5 new.successors s₃ r₄ refl j n5

    pub counts_else : (j : ℕ) → (j ≡ 0 → ⊥) → (j ≡ 2 → ⊥) → (j ≡ 3 → ⊥) → (j ≡ 4 → ⊥) → (j ≡ 5 → ⊥) → at made counts j ≡ at C counts j
    counts_else j n0 n2 n3 n4 n5 = after₃ j n0 n5 ∙ k₃ j n2 n3 n4

    pub ops_count : at made counts 0 ≡ op_count C + 1
    unfolding with_operation op_written
    ops_count = count_same c₄ 0 (op_count C + 1) s₄ (omega arith)

    pub regions_counted : at made counts 2 ≡ region_count C + new.regions
    unfolding region_count
    regions_counted =
        after₃ 2 (λ q. omega arith) (λ q. omega arith)
        ∙ slice_counts c₂ operand_words 4 new.operands s₂ r₃ refl 2 (λ q. omega arith)
        ∙ values_counts c₁ (of_op (op_count C)) new.types s₁ r₂ 2 (λ q. omega arith)
        ∙ regions_count placed (op_count C) new.regions s₀ r₁
        ∙ ap (λ (n : ℕ). n + new.regions) (counts_placed 2)

    pub values_counted : at made counts 3 ≡ value_count C + length new.types
    unfolding value_count
    values_counted =
        after₃ 3 (λ q. omega arith) (λ q. omega arith)
        ∙ slice_counts c₂ operand_words 4 new.operands s₂ r₃ refl 3 (λ q. omega arith)
        ∙ values_count c₁ (of_op (op_count C)) new.types s₁ r₂
        ∙ ap (λ (n : ℕ). n + length new.types) (k₁ 3 (λ q. omega arith))

    pub operands_counted : at made counts 4 ≡ operand_count C + length new.operands
    unfolding operand_count
    operands_counted =
        after₃ 4 (λ q. omega arith) (λ q. omega arith)
        ∙ slice_count c₂ operand_words 4 new.operands s₂ r₃ (omega arith)
        ∙ ap (λ (n : ℕ). n + length new.operands) (k₂ 4 (λ q. omega arith) (λ q. omega arith))

    pub successors_counted : at made counts 5 ≡ successor_count C + length new.successors
    unfolding with_operation op_written successor_count
    successors_counted =
        count_other c₄ 0 (op_count C + 1) 5 (λ q. omega arith)
        ∙ slice_count c₃ successor_words 5 new.successors s₃ r₄ (omega arith)
        ∙ ap (λ (n : ℕ). n + length new.successors) (k₃ 5 (λ q. omega arith) (λ q. omega arith) (λ q. omega arith))
