-- What the columns hold after the call that adds an operation: its row, its regions, its results and its lists, behind what was there. Assumes nothing.
use Prim.Native.Nat.{ℕ, ◌+◌}
use native.Mathlib.Omega.{arith}
use mathlib.Core.Bool.{false}
use mathlib.Core.List.{List}
use mathlib.Core.Path.{◌≡◌, refl, ap₂, ◌∙◌}
use lib.Dec.{eqb}
use lib.ListN.{length, set, replicate, length-replicate, get_or-replicate}
use Rattle.rules.specs.declared.types.Owner.TheVariants.{Op as of_op}
use Rattle.rules.specs.Building.{NewOperation}
use Rattle.layout.specs.Columns.{Cols, at, pasted, write, write_range, op_kind, op_parent, op_location, op_depth, op_region_first, op_region_end, op_result_first, op_result_end, op_operand_first, op_operand_end, op_successor_first, op_successor_end, op_attributes, region_op, region_block_first, region_block_end, block_op_first, block_op_end, value_type, value_owner, operand_words, successor_words, op_next}
use Rattle.layout.specs.Reading.{op_count, region_count, value_count, operand_count, successor_count, owner_code}
use Rattle.layout.proofs.Laid.{Shaped}
use Rattle.mutation.specs.AddedWrites.{with_row, with_values, parent_code, depth_under, with_regions, with_slice, op_row, op_written, with_operation}
use Rattle.mutation.proofs.Entries.{Put, put, Run, run}
use Rattle.mutation.proofs.Rows.{ValuesAdded}
use Rattle.mutation.proofs.OperationLaid.{RoomFor}
use Rattle.mutation.proofs.OperationWritten.{row, placed, made, placed_other, counts_placed, k₁, k₂, k₃, values_counted}

-- the operation's row in D
pub record OpRowPut (C D : Cols) (new : NewOperation) : Type 0 where
  pub kind_put : Put C D op_kind (op_count C) new.kind
  pub parent_put : Put C D op_parent (op_count C) (parent_code new.parent)
  pub location_put : Put C D op_location (op_count C) new.location
  pub depth_put : Put C D op_depth (op_count C) (depth_under C new.parent)
  pub region_first : Put C D op_region_first (op_count C) (region_count C)
  pub region_end : Put C D op_region_end (op_count C) (region_count C + new.regions)
  pub result_first : Put C D op_result_first (op_count C) (value_count C)
  pub result_end : Put C D op_result_end (op_count C) (value_count C + length new.types)
  pub operand_first : Put C D op_operand_first (op_count C) (operand_count C)
  pub operand_end : Put C D op_operand_end (op_count C) (operand_count C + length new.operands)
  pub successor_first : Put C D op_successor_first (op_count C) (successor_count C)
  pub successor_end : Put C D op_successor_end (op_count C) (successor_count C + length new.successors)
  pub keys : Put C D op_attributes (op_count C) 0

module _ (C : Cols) (new : NewOperation) (sh : Shaped C) (room : RoomFor C new) where
  abbrev pub D : Cols
  D = made C new

  pub other : (j : ℕ) → eqb j block_op_first ≡ false → eqb j block_op_end ≡ false → eqb j op_next ≡ false → placed C new j ≡ row C new j
  other = placed_other C new

  row_put : (k v : ℕ) → length (C k) ≡ 512 → D k ≡ set (C k) (op_count C) v → Put C D k (op_count C) v
  row_put k v long e = let l = room.ops in put C D k (op_count C) v e (omega arith)

  pub row_puts : OpRowPut C D new
  unfolding with_operation op_written with_regions with_values with_slice op_row with_row write write_range at region_count value_count operand_count successor_count
  row_puts =
      record {
        kind_put = row_put op_kind new.kind (sh op_kind) (other op_kind refl refl refl);
        parent_put = row_put op_parent (parent_code new.parent) (sh op_parent) (other op_parent refl refl refl);
        location_put = row_put op_location new.location (sh op_location) (other op_location refl refl refl);
        depth_put = row_put op_depth (depth_under C new.parent) (sh op_depth) (other op_depth refl refl refl);
        region_first = row_put op_region_first (region_count C) (sh op_region_first) (other op_region_first refl refl refl);
        region_end = row_put op_region_end (region_count C + new.regions) (sh op_region_end) (other op_region_end refl refl refl);
        result_first = row_put op_result_first (value_count C) (sh op_result_first) (other op_result_first refl refl refl);
        result_end = row_put op_result_end (value_count C + length new.types) (sh op_result_end) (other op_result_end refl refl refl);
        operand_first = row_put op_operand_first (operand_count C) (sh op_operand_first) (other op_operand_first refl refl refl);
        operand_end = row_put op_operand_end (operand_count C + length new.operands) (sh op_operand_end) (other op_operand_end refl refl refl);
        successor_first = row_put op_successor_first (successor_count C) (sh op_successor_first) (other op_successor_first refl refl refl);
        successor_end = row_put op_successor_end (successor_count C + length new.successors) (sh op_successor_end) (other op_successor_end refl refl refl);
        keys = row_put op_attributes 0 (sh op_attributes) (other op_attributes refl refl refl);
      }

  -- its row is written, and its parent's range
  abbrev begun : Cols
  begun = placed C new

  region_run : (k v : ℕ) → length (C k) ≡ 256 → D k ≡ pasted (begun k) (region_count begun) (replicate new.regions v) → begun k ≡ C k → Run C D k (region_count C) (replicate new.regions v)
  unfolding region_count
  region_run k v long e q =
      run C D k (region_count C) (replicate new.regions v)
      (e ∙ ap₂ (λ (l : List ℕ) (n : ℕ). pasted l n (replicate new.regions v)) q (counts_placed C new 2))
      (let l = room.regions in rw length-replicate (omega arith))

  pub around_run : Run C D region_op (region_count C) (replicate new.regions (op_count C))
  unfolding with_operation op_written with_regions with_values with_slice op_row with_row write write_range
  around_run = region_run region_op (op_count C) (sh region_op) refl (other region_op refl refl refl)

  pub first_run_lem : Run C D region_block_first (region_count C) (replicate new.regions 0)
  unfolding with_operation op_written with_regions with_values with_slice op_row with_row write write_range
  first_run_lem = region_run region_block_first 0 (sh region_block_first) refl (other region_block_first refl refl refl)

  pub end_run : Run C D region_block_end (region_count C) (replicate new.regions 0)
  unfolding with_operation op_written with_regions with_values with_slice op_row with_row write write_range
  end_run = region_run region_block_end 0 (sh region_block_end) refl (other region_block_end refl refl refl)

  pub type_run : Run C D value_type (value_count C) new.types
  unfolding with_operation op_written with_regions with_values with_slice op_row with_row write write_range value_count
  type_run =
      run C D value_type (value_count C) new.types
      (ap₂ (λ (l : List ℕ) (n : ℕ). pasted l n new.types) (other value_type refl refl refl) (k₁ C new sh room 3 (λ q. omega arith)))
      (let e : length (C value_type) ≡ 2048 = sh value_type in let l = room.values in omega arith)

  pub owner_run : Run C D value_owner (value_count C) (replicate (length new.types) (owner_code (of_op (op_count C))))
  unfolding with_operation op_written with_regions with_values with_slice op_row with_row write write_range value_count
  owner_run =
      let vs = replicate (length new.types) (owner_code (of_op (op_count C))) in
      run C D value_owner (value_count C) vs
      (ap₂ (λ (l : List ℕ) (n : ℕ). pasted l n vs) (other value_owner refl refl refl) (k₁ C new sh room 3 (λ q. omega arith)))
      (let e : length (C value_owner) ≡ 2048 = sh value_owner in let l = room.values in rw length-replicate (omega arith))

  pub operand_run : Run C D operand_words (operand_count C) new.operands
  unfolding with_operation op_written with_regions with_values with_slice op_row with_row write write_range operand_count
  operand_run =
      run C D operand_words (operand_count C) new.operands
      (ap₂ (λ (l : List ℕ) (n : ℕ). pasted l n new.operands) (other operand_words refl refl refl) (k₂ C new sh room 4 (λ q. omega arith) (λ q. omega arith)))
      (let e : length (C operand_words) ≡ 2048 = sh operand_words in let l = room.operands in omega arith)

  pub successor_run : Run C D successor_words (successor_count C) new.successors
  unfolding with_operation op_written with_regions with_values with_slice op_row with_row write write_range successor_count
  successor_run =
      run C D successor_words (successor_count C) new.successors
      (ap₂ (λ (l : List ℕ) (n : ℕ). pasted l n new.successors) (other successor_words refl refl refl) (k₃ C new sh room 5 (λ q. omega arith) (λ q. omega arith) (λ q. omega arith)))
      (let e : length (C successor_words) ≡ 512 = sh successor_words in let l = room.successors in omega arith)

  pub values_added : ValuesAdded C D (of_op (op_count C)) new.types
  unfolding value_count
  values_added =
      record {
        count = values_counted C new sh room;
        type = type_run.new;
        owner = λ i l. owner_run.new i (rw length-replicate l) ∙ get_or-replicate (length new.types) i _ 0 l;
      }
