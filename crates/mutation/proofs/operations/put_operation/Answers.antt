-- `put_operation` meets its contract: layer by layer, as the definition has it. Assumes nothing.
-- ---- what stands after each call: the words are as many as before, and are the next layer of the definition
use Prim.Native.Nat.{ℕ, ◌+◌, ◌*◌, ◌<◌, ◌≤◌}
use native.Mathlib.Omega.{arith}
use mathlib.Core.Path.{◌≡◌, sym, ap, ap₂, subst, ◌∙◌}
use lib.ListN.{length}
use Rattle.rules.specs.Building.{NewOperation}
use Rattle.layout.specs.Columns.{Cols, columns, at, write}
use Rattle.layout.specs.Reading.{op_count, region_count, value_count, owner_code}
use Rattle.mutation.specs.Types.{operation_of}
use Rattle.mutation.specs.AddedWrites.{op_written, with_regions, with_values, with_values_by, with_slice, with_operation}
use Rattle.layout.proofs.Buffer.{columns_shaped}
use Rattle.mutation.proofs.OperationWritten.{r₁, r₂, r₃, r₄}
use Rattle.mutation.proofs.operations.put_operation.Goals as goal

-- ---- what each call asks for

pub put_regions-requires : goal.put_regions-requires
unfolding op_written op_count
put_regions-requires c =
    let cols : Cols = columns c.args.store.now in
    let new : NewOperation = operation_of c.args.fields c.args.types.now c.args.operands.now c.args.successors.now in
    let few : c.number-n.result < 512 = omega (arith, c.requires.op_room.ops, c.number-n.ensures) in
    let layer₀ : Cols = op_written cols new.kind new.parent new.location new.regions (length new.types) (length new.operands) (length new.successors) in
    let made₀ : columns c.put_op.new.store ≡ layer₀ = c.put_op.ensures in
    record { n_bound = few; regions_bound = subst (λ (X : Cols). region_count X + new.regions ≤ 256) (sym made₀) (r₁ cols new (columns_shaped c.args.store.now c.requires.arranged.sized) c.requires.op_room) }

pub put_values-requires : goal.put_values-requires
unfolding op_written op_count
put_values-requires c =
    let cols : Cols = columns c.args.store.now in
    let new : NewOperation = operation_of c.args.fields c.args.types.now c.args.operands.now c.args.successors.now in
    let layer₀ : Cols = op_written cols new.kind new.parent new.location new.regions (length new.types) (length new.operands) (length new.successors) in
    let layer₁ : Cols = with_regions layer₀ (op_count cols) new.regions in
    let made₀ : columns c.put_op.new.store ≡ layer₀ = c.put_op.ensures in
    let made₁ : columns c.put_regions.new.store ≡ layer₁ = c.put_regions.ensures ∙ ap₂ (λ (X : Cols) (k : ℕ). with_regions X k new.regions) made₀ c.number-n.ensures in
    subst (λ (X : Cols). value_count X + length new.types ≤ 2048) (sym made₁) (r₂ cols new (columns_shaped c.args.store.now c.requires.arranged.sized) c.requires.op_room)

pub put_slice-requires : goal.put_slice-requires
unfolding op_written op_count with_values owner_code
put_slice-requires c =
    let cols : Cols = columns c.args.store.now in
    let new : NewOperation = operation_of c.args.fields c.args.types.now c.args.operands.now c.args.successors.now in
    let layer₀ : Cols = op_written cols new.kind new.parent new.location new.regions (length new.types) (length new.operands) (length new.successors) in
    let layer₁ : Cols = with_regions layer₀ (op_count cols) new.regions in
    let layer₂ : Cols = with_values_by layer₁ (2 * op_count cols) new.types in
    let made₀ : columns c.put_op.new.store ≡ layer₀ = c.put_op.ensures in
    let made₁ : columns c.put_regions.new.store ≡ layer₁ = c.put_regions.ensures ∙ ap₂ (λ (X : Cols) (k : ℕ). with_regions X k new.regions) made₀ c.number-n.ensures in
    let made₂ : columns c.put_values.new.store ≡ layer₂ = c.put_values.ensures ∙ ap₂ (λ (X : Cols) (k : ℕ). with_values_by X (2 * k) new.types) made₁ c.number-n.ensures in
    let room = subst (λ (X : Cols). at X 0 4 + length new.operands ≤ 2048) (sym made₂) (r₃ cols new (columns_shaped c.args.store.now c.requires.arranged.sized) c.requires.op_room) in
    record { column_lt_column_count = omega arith; word_bound = omega arith; list_bound = room; column_bound = omega arith }

pub put_slice-requires-2 : goal.put_slice-requires-2
unfolding op_written op_count with_values owner_code
put_slice-requires-2 c =
    let cols : Cols = columns c.args.store.now in
    let new : NewOperation = operation_of c.args.fields c.args.types.now c.args.operands.now c.args.successors.now in
    let layer₀ : Cols = op_written cols new.kind new.parent new.location new.regions (length new.types) (length new.operands) (length new.successors) in
    let layer₁ : Cols = with_regions layer₀ (op_count cols) new.regions in
    let layer₂ : Cols = with_values_by layer₁ (2 * op_count cols) new.types in
    let layer₃ : Cols = with_slice layer₂ 26 4 new.operands in
    let made₀ : columns c.put_op.new.store ≡ layer₀ = c.put_op.ensures in
    let made₁ : columns c.put_regions.new.store ≡ layer₁ = c.put_regions.ensures ∙ ap₂ (λ (X : Cols) (k : ℕ). with_regions X k new.regions) made₀ c.number-n.ensures in
    let made₂ : columns c.put_values.new.store ≡ layer₂ = c.put_values.ensures ∙ ap₂ (λ (X : Cols) (k : ℕ). with_values_by X (2 * k) new.types) made₁ c.number-n.ensures in
    let made₃ : columns c.put_slice.new.store ≡ layer₃ = c.put_slice.ensures ∙ ap (λ (X : Cols). with_slice X 26 4 new.operands) made₂ in
    let room = subst (λ (X : Cols). at X 0 5 + length new.successors ≤ 512) (sym made₃) (r₄ cols new (columns_shaped c.args.store.now c.requires.arranged.sized) c.requires.op_room) in
    record { column_lt_column_count = omega arith; word_bound = omega arith; list_bound = room; column_bound = omega arith }

pub returns : goal.returns
unfolding with_operation op_count with_values owner_code
returns c =
    let cols : Cols = columns c.args.store.now in
    let new : NewOperation = operation_of c.args.fields c.args.types.now c.args.operands.now c.args.successors.now in
    let layer₀ : Cols = op_written cols new.kind new.parent new.location new.regions (length new.types) (length new.operands) (length new.successors) in
    let layer₁ : Cols = with_regions layer₀ (op_count cols) new.regions in
    let layer₂ : Cols = with_values_by layer₁ (2 * op_count cols) new.types in
    let layer₃ : Cols = with_slice layer₂ 26 4 new.operands in
    let layer₄ : Cols = with_slice layer₃ 27 5 new.successors in
    let made₀ : columns c.put_op.new.store ≡ layer₀ = c.put_op.ensures in
    let made₁ : columns c.put_regions.new.store ≡ layer₁ = c.put_regions.ensures ∙ ap₂ (λ (X : Cols) (k : ℕ). with_regions X k new.regions) made₀ c.number-n.ensures in
    let made₂ : columns c.put_values.new.store ≡ layer₂ = c.put_values.ensures ∙ ap₂ (λ (X : Cols) (k : ℕ). with_values_by X (2 * k) new.types) made₁ c.number-n.ensures in
    let made₃ : columns c.put_slice.new.store ≡ layer₃ = c.put_slice.ensures ∙ ap (λ (X : Cols). with_slice X 26 4 new.operands) made₂ in
    let made₄ : columns c.put_slice-2.new.store ≡ layer₄ = c.put_slice-2.ensures ∙ ap (λ (X : Cols). with_slice X 27 5 new.successors) made₃ in
    c.put.ensures ∙ ap₂ (λ (X : Cols) (k : ℕ). write X 0 0 (k + 1)) made₄ c.number-n.ensures
