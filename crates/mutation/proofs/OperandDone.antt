-- A set operand that no test refuses: its word lies in the columns, and where that is written, the call is done. Assumes nothing.
use Prim.Native.Nat.{ℕ, ◌+◌, ◌<◌}
use native.Mathlib.Omega.{arith}
use mathlib.Core.List.{List}
use Rattle.std.specs.Prelude.{None}
use mathlib.Core.Path.{◌≡◌, refl, sym, ap, subst, ◌∙◌}
use lib.ListN.{length}
use Rattle.rules.specs.Building.{set_operand, accepted, tests, first_failed, acceptance}
use Rattle.layout.specs.Columns.{Cols, column_size, columns, at, op_operand_first, operand_words}
use Rattle.layout.specs.Reading.{store_of, store_in}
use Rattle.layout.specs.Soundness.{IsSound}
use Rattle.layout.proofs.Laid.{Laid}
use Rattle.mutation.specs.Doing.{Behind, Performs}
use Rattle.mutation.proofs.Facts.{shaped, laid}
use Rattle.mutation.proofs.Doing.{did_work}
use Rattle.mutation.specs.SetWrites.{with_operand}
use Rattle.mutation.proofs.SetOperand.{operand_reads, operand_behind, operand_laid}
use Rattle.mutation.proofs.OperandCauses.{OperandThere, there_operand}

module _ (b : List ℕ) (h : IsSound b) (n i v : ℕ) (clear : first_failed (tests (store_in b) (set_operand (record { operation = n; index = i; value = v }))) ≡ None) where
  abbrev C : Cols
  C = columns b

  there : OperandThere b n i v
  there = there_operand b h n i v clear

  pub operand_reached : (n < column_size op_operand_first) × (at C op_operand_first n + i < column_size operand_words)
  operand_reached =
      let l = there.op in
      let k = ((laid b h).op n l).operands.range.fits in
      (omega (arith, (laid b h).counts.ops), omega (arith, there.operand, (laid b h).counts.operands))

  pub operand_done : (exit : List ℕ) → length exit ≡ length b → columns exit ≡ with_operand C n i v → Performs b exit (set_operand (record { operation = n; index = i; value = v })) accepted
  unfolding acceptance
  operand_done exit len q =
      did_work b h (set_operand (record { operation = n; index = i; value = v })) _ exit clear len
      (ap store_of q ∙ operand_reads C n i v (laid b h) there.op there.operand)
      (subst Laid (sym q) (operand_laid C n i v (laid b h) there.op there.operand (shaped b h)))
      (subst (Behind C) (sym q) (operand_behind C n i v (laid b h) there.op there.operand (shaped b h)))
      refl
