-- A building call on a sound buffer: refused, the buffer is as it was; accepted, what is written keeps the columns' lengths, and columns of
-- these lengths are those of a buffer. Assumes nothing.
use Rattle.rules.specs.declared.types.Cause.{Cause}
use Prim.Native.Nat.{ℕ}
use mathlib.Core.List.{List}
use Rattle.std.specs.Prelude.{Option, None, Some}
use mathlib.Core.Path.{◌≡◌, refl, sym, ◌∙◌}
use Rattle.rules.specs.Building.{Call, new_operation, new_block, set_attribute, set_operand, tests, first_failed, Built, refused, made, accepted}
use Rattle.layout.specs.Columns.{Cols, columns}
use Rattle.layout.specs.Reading.{op_count, block_count, store_in}
use Rattle.layout.specs.Soundness.{IsSound}
use Rattle.layout.proofs.Filled.{filled}
use Rattle.mutation.specs.Doing.{Performs}
use Rattle.mutation.proofs.Facts.{shaped}
use Rattle.mutation.proofs.Doing.{did_refuse}
use Rattle.mutation.specs.AddedWrites.{with_operation, with_block}
use Rattle.mutation.proofs.Operating.{allowed}
use Rattle.mutation.proofs.BlockCauses.{fits_block}
use Rattle.mutation.proofs.OperationWritten.{made_shaped}
use Rattle.mutation.proofs.NewBlock.{block_shaped}
use Rattle.mutation.proofs.Done.{operation_done, block_done}
use Rattle.mutation.specs.SetWrites.{with_attribute, with_operand}
use Rattle.mutation.proofs.Placed.{attribute_done}
use Rattle.mutation.proofs.OperandDone.{operand_done}
use Rattle.api.proofs.Shapes.{operand_shaped, attribute_shaped}

module _ (b : List ℕ) (h : IsSound b) where
  abbrev C : Cols
  C = columns b

  abbrev pub Doing : Call → Type 0
  Doing c = (exit : List ℕ) × (r : Built) × Performs b exit c r

  refuse : (c : Call) (cause : Cause) → first_failed (tests (store_in b) c) ≡ Some cause → Doing c
  refuse c cause e = (b, refused cause, did_refuse b h c (refused cause) cause e refl)

  work : (c : Call) → first_failed (tests (store_in b) c) ≡ None → Doing c
  work (new_operation new) e =
      let x = filled (with_operation C new) (made_shaped C new (shaped b h) (allowed b h new e).room) in
      (x.0, made (op_count C), operation_done b h x.0 (x.1 ∙ sym h.sized) (made (op_count C)) new e x.2 refl)
  work (new_block new) e =
      let x = filled (with_block C new) (block_shaped C new (shaped b h) (fits_block b h new e).room) in
      (x.0, made (block_count C), block_done b h x.0 (x.1 ∙ sym h.sized) (made (block_count C)) new e x.2 refl)
  work (set_attribute w a) e =
      let x = filled (with_attribute C w a) (attribute_shaped b h w a e) in
      (x.0, accepted, attribute_done b h w a e x.0 (x.1 ∙ sym h.sized) x.2)
  work (set_operand u) e =
      let n = u.operation in
      let i = u.index in
      let v = u.value in
      let x = filled (with_operand C n i v) (operand_shaped C n i v (shaped b h)) in
      (x.0, accepted, operand_done b h n i v e x.0 (x.1 ∙ sym h.sized) x.2)

  pub doing : (c : Call) → Doing c
  doing c = go (first_failed (tests (store_in b) c)) refl
    where
      go : (o : Option Cause) → first_failed (tests (store_in b) c) ≡ o → Doing c
      go None e = work c e
      go (Some cause) e = refuse c cause e
