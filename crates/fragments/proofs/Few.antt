-- What an operation or a block of a sound store has lies in its columns. Assumes nothing.
use Prim.Native.Nat.{ℕ, ◌<◌, ◌≤◌}
use native.Mathlib.Omega.{arith}
use mathlib.Core.List.{List}
use Rattle.layout.specs.Columns.{columns, at, op_region_first, op_region_end, op_operand_first, op_operand_end, op_successor_first, op_successor_end}
use Rattle.layout.specs.Reading.{op_count, block_count, value_count}
use Rattle.layout.specs.Soundness.{IsSound}
use Rattle.layout.proofs.Laid.{laid_facts}

module _ (b : List ℕ) (s : IsSound b) (n : ℕ) where
  pub block_low : n < block_count (columns b) → n < 256
  block_low l = omega (arith, l, (laid_facts (columns b) s.laid).counts.blocks)

  pub value_low : n < value_count (columns b) → n < 2048
  value_low l = omega (arith, l, (laid_facts (columns b) s.laid).counts.values)

  module _ (l : n < op_count (columns b)) where
    pub op_low : n < 512
    op_low = omega (arith, l, (laid_facts (columns b) s.laid).counts.ops)

    pub regions_rise : at (columns b) op_region_first n ≤ at (columns b) op_region_end n
    regions_rise = ((laid_facts (columns b) s.laid).op n l).regions.range.rises

    pub operands_rise : at (columns b) op_operand_first n ≤ at (columns b) op_operand_end n
    operands_rise = ((laid_facts (columns b) s.laid).op n l).operands.range.rises

    pub successors_rise : at (columns b) op_successor_first n ≤ at (columns b) op_successor_end n
    successors_rise = ((laid_facts (columns b) s.laid).op n l).successors.range.rises
