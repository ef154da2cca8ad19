-- How much a row has of everything: its ranges rise, and end within the store's counts. Assumes nothing.
use Rattle.std.proofs.Common.{ℕ, ◌<◌, ◌≤◌, List, arith}
use Rattle.layout.specs.Columns.{columns, at, op_region_first, op_region_end, op_result_first, op_result_end, op_operand_first, op_operand_end, op_successor_first, op_successor_end, op_attributes, block_argument_first, block_argument_end, block_attributes}
use Rattle.layout.specs.Reading.{op_count, block_count}
use Rattle.layout.specs.Soundness.{IsSound}
use Rattle.layout.proofs.Laid.{Laid, laid_facts}

-- a range of so many at most
pub record Span (b : List ℕ) (first end m most : ℕ) : Type 0 where
  pub rises : at (columns b) first m ≤ at (columns b) end m
  pub few : at (columns b) end m ≤ most

pub record OpSpans (b : List ℕ) (m : ℕ) : Type 0 where
  pub low : m < 512
  pub regions : Span b op_region_first op_region_end m 256
  pub results : Span b op_result_first op_result_end m 2048
  pub operands : Span b op_operand_first op_operand_end m 2048
  pub successors : Span b op_successor_first op_successor_end m 512
  pub attributes : at (columns b) op_attributes m ≤ 8

pub record BlockSpans (b : List ℕ) (m : ℕ) : Type 0 where
  pub low : m < 256
  pub arguments : Span b block_argument_first block_argument_end m 2048
  pub attributes : at (columns b) block_attributes m ≤ 8

pub op_spans : (b : List ℕ) → IsSound b → (m : ℕ) → m < op_count (columns b) → OpSpans b m
op_spans b sound m l =
    let h : Laid (columns b) = laid_facts (columns b) sound.laid in
    let o = h.op m l in
    record {
      low = omega (arith, h.counts.ops);
      regions = record { rises = o.regions.range.rises; few = omega (arith, h.counts.regions, o.regions.range.fits) };
      results = record { rises = o.results.range.rises; few = omega (arith, h.counts.values, o.results.range.fits) };
      operands = record { rises = o.operands.range.rises; few = omega (arith, h.counts.operands, o.operands.range.fits) };
      successors = record { rises = o.successors.range.rises; few = omega (arith, h.counts.successors, o.successors.range.fits) };
      attributes = o.keys;
    }

pub block_spans : (b : List ℕ) → IsSound b → (m : ℕ) → m < block_count (columns b) → BlockSpans b m
block_spans b sound m l =
    let h : Laid (columns b) = laid_facts (columns b) sound.laid in
    let o = h.block m l in
    record {
      low = omega (arith, h.counts.blocks);
      arguments = record { rises = o.arguments.range.rises; few = omega (arith, h.counts.values, o.arguments.range.fits) };
      attributes = o.keys;
    }
