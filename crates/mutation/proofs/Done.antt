-- A new operation, or a new block, that no test refuses: where it is written, and the answer is its number, the call is done. Assumes nothing.
use Prim.Native.Nat.{ℕ}
use mathlib.Core.List.{List}
use Rattle.std.specs.Prelude.{None}
use mathlib.Core.Path.{◌≡◌, sym, ap, subst, ◌∙◌}
use lib.ListN.{length}
use Rattle.rules.specs.Building.{NewOperation, NewBlock, Built, new_operation, new_block, made, tests, first_failed, acceptance}
use Rattle.layout.specs.Columns.{Cols, columns}
use Rattle.layout.specs.Reading.{op_count, block_count, store_of, store_in}
use Rattle.layout.specs.Soundness.{IsSound}
use Rattle.layout.proofs.Laid.{Laid}
use Rattle.layout.proofs.Tabulate.{ops_length, blocks_length}
use Rattle.mutation.specs.Doing.{Behind, Performs}
use Rattle.mutation.proofs.Facts.{shaped, laid}
use Rattle.mutation.proofs.Doing.{did_work}
use Rattle.mutation.specs.AddedWrites.{with_operation, with_block}
use Rattle.mutation.proofs.Operating.{arranged_of, parent_in_lem, allowed}
use Rattle.mutation.proofs.BlockCauses.{fits_block}
use Rattle.mutation.proofs.NewOperation.{operation_behind, operation_reads, operation_laid}
use Rattle.mutation.proofs.NewBlock.{block_behind, block_reads, block_laid_lem}

module _ (b : List ℕ) (h : IsSound b) (exit : List ℕ) (len : length exit ≡ length b) (r : Built) where
  abbrev C : Cols
  C = columns b

  pub operation_done : (new : NewOperation) → first_failed (tests (store_in b) (new_operation new)) ≡ None → columns exit ≡ with_operation C new → r ≡ made (op_count C) → Performs b exit (new_operation new) r
  unfolding acceptance
  operation_done new clear q e =
      let ok = allowed b h new clear in
      did_work b h (new_operation new) r exit clear len
      (ap store_of q ∙ operation_reads C new (shaped b h) ok.room (laid b h))
      (subst Laid (sym q) (operation_laid C new (shaped b h) ok.room (laid b h) (parent_in_lem b (arranged_of h) new.parent ok.parent)))
      (subst (Behind C) (sym q) (operation_behind C new (shaped b h) ok.room (laid b h)))
      (e ∙ ap made (sym (ops_length C)))

  pub block_done : (new : NewBlock) → first_failed (tests (store_in b) (new_block new)) ≡ None → columns exit ≡ with_block C new → r ≡ made (block_count C) → Performs b exit (new_block new) r
  unfolding acceptance
  block_done new clear q e =
      let f = fits_block b h new clear in
      did_work b h (new_block new) r exit clear len
      (ap store_of q ∙ block_reads C new (shaped b h) f.room (laid b h))
      (subst Laid (sym q) (block_laid_lem C new (shaped b h) f.room (laid b h) f.named))
      (subst (Behind C) (sym q) (block_behind C new (shaped b h) f.room (laid b h)))
      (e ∙ ap made (sym (blocks_length C)))
