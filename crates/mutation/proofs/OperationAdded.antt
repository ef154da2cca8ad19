-- Columns with one operation more are read as the rules' store with that operation: the old rows are read as before, and the new ones stand behind them. Assumes nothing.
use Prim.Native.Nat.{ℕ, ◌+◌, ◌<◌}
use native.Mathlib.Numerals.{add-one}
use Rattle.std.specs.Prelude.{Option, None, Some}
use mathlib.Core.List.{[], ◌++◌}
use mathlib.Core.Path.{◌≡◌, refl, sym, ap, ap₂, ◌∙◌}
use lib.ListN.{length, replicate, length-replicate, get_or-replicate}
use Rattle.rules.specs.Store.{Op}
use Rattle.rules.specs.declared.types.Owner.TheVariants.{Op as of_op}
use Rattle.rules.specs.Building.{NewOperation, new_operation, applied, values_for}
use Rattle.layout.specs.Columns.{Cols, at, op_kind, op_parent, op_location, op_depth, op_region_first, op_region_end, op_result_first, op_result_end, op_operand_first, op_operand_end, op_successor_first, op_successor_end, op_attributes, region_op, region_block_end, operand_words, successor_words}
use Rattle.layout.specs.Reading.{tabulate, slice, op_count, block_count, region_count, value_count, operand_count, successor_count, attribute_count, parent_from, slots_of, op_of, block_of, value_of, store_of}
use Rattle.layout.proofs.Laid.{Laid}
use Rattle.layout.proofs.Tabulate.{ops_length}
use Rattle.mutation.specs.AddedWrites.{parent_code, depth_under}
use Rattle.mutation.proofs.Grew.{Grew, op_same, block_same}
use Rattle.mutation.proofs.Rows.{ValuesAdded, values_read, no_attributes, rows_last, rows_new, rows_kept}

-- D is C with this operation
pub record OperationAdded (C D : Cols) (new : NewOperation) : Type 0 where
  pub grew : Grew C D
  pub values : ValuesAdded C D (of_op (op_count C)) new.types
  pub op_counted : op_count D ≡ op_count C + 1
  pub block_counted : block_count D ≡ block_count C
  pub region_counted : region_count D ≡ region_count C + new.regions
  pub operand_counted : operand_count D ≡ operand_count C + length new.operands
  pub successor_counted : successor_count D ≡ successor_count C + length new.successors
  pub attribute_counted : attribute_count D ≡ attribute_count C
  pub kind_word : at D op_kind (op_count C) ≡ new.kind
  pub parent_word : at D op_parent (op_count C) ≡ parent_code new.parent
  pub location_word : at D op_location (op_count C) ≡ new.location
  pub depth_word : at D op_depth (op_count C) ≡ depth_under C new.parent
  pub region_first : at D op_region_first (op_count C) ≡ region_count C
  pub region_end : at D op_region_end (op_count C) ≡ region_count C + new.regions
  pub result_first : at D op_result_first (op_count C) ≡ value_count C
  pub result_end : at D op_result_end (op_count C) ≡ value_count C + length new.types
  pub operand_first : at D op_operand_first (op_count C) ≡ operand_count C
  pub operand_end : at D op_operand_end (op_count C) ≡ operand_count C + length new.operands
  pub successor_first : at D op_successor_first (op_count C) ≡ successor_count C
  pub successor_end : at D op_successor_end (op_count C) ≡ successor_count C + length new.successors
  pub keys : at D op_attributes (op_count C) ≡ 0
  pub around : (i : ℕ) → i < new.regions → at D region_op (region_count C + i) ≡ op_count C
  pub blockless : (i : ℕ) → i < new.regions → at D region_block_end (region_count C + i) ≡ 0
  pub operand_part : slice (D operand_words) (operand_count C) (operand_count C + length new.operands) ≡ new.operands
  pub successor_part : slice (D successor_words) (successor_count C) (successor_count C + length new.successors) ≡ new.successors

pub parent_read_lem : (parent : Option ℕ) → parent_from (parent_code parent) ≡ parent
unfolding parent_from parent_code
parent_read_lem None = refl
parent_read_lem (Some b) = rw add-one refl

module _ (C D : Cols) (new : NewOperation) (h : Laid C) (a : OperationAdded C D new) where
  row_read : ◌≡◌ {A = Op} (op_of D (op_count C)) (record { kind = new.kind; parent = new.parent; location = new.location; operands = new.operands; successors = new.successors; attributes = [] })
  unfolding op_of
  row_read =
      let first = ap₂ (slice (D operand_words)) a.operand_first a.operand_end ∙ a.operand_part in
      let second = ap₂ (slice (D successor_words)) a.successor_first a.successor_end ∙ a.successor_part in
      λ i.
      record {
        kind = a.kind_word i;
        parent = (ap parent_from a.parent_word ∙ parent_read_lem new.parent) i;
        location = a.location_word i;
        operands = first i;
        successors = second i;
        attributes = no_attributes D (slots_of (of_op (op_count C))) (at D op_attributes (op_count C)) a.keys i;
      }

  regions_read : tabulate (region_count D) (at D region_op) ≡ tabulate (region_count C) (at C region_op) ++ replicate new.regions (op_count C)
  regions_read =
      rows_new (region_count D) (region_count C) (at D region_op) (at C region_op) a.grew.around (replicate new.regions (op_count C)) 0
      (rw length-replicate a.region_counted)
      (λ i l. let b : i < new.regions = rw length-replicate at l in a.around i b ∙ sym (get_or-replicate new.regions i (op_count C) 0 b))

  pub added_reads : store_of D ≡ applied (store_of C) (new_operation new)
  unfolding store_of applied
  added_reads =
      let ops = rows_last (op_count D) (op_count C) (op_of D) (op_of C) (op_same C D h a.grew) _ a.op_counted row_read in
      let blocks = rows_kept (block_count D) (block_count C) (block_of D) (block_of C) (block_same C D h a.grew) a.block_counted in
      let count : op_count C ≡ length (store_of C).ops = sym (ops_length C) in
      let around = regions_read ∙ ap (λ (n : ℕ). tabulate (region_count C) (at C region_op) ++ replicate new.regions n) count in
      let values = values_read C D (of_op (op_count C)) new.types h a.grew a.values ∙ ap (λ (n : ℕ). tabulate (value_count C) (value_of C) ++ values_for (of_op n) new.types) count in
      λ i. record { ops = ops i; blocks = blocks i; regions = around i; values = values i }
