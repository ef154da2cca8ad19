-- How much there is to copy of everything.
use Rattle.std.specs.Prelude.{ℕ, ◌+◌, ◌-◌, ◌≤◌, List, [], ◌∷◌}
use Rattle.rules.specs.declared.types.Owner.{Owner}
use Rattle.rules.specs.declared.types.Owner.TheVariants.{Op as of_op, Block as of_block}
use Rattle.rules.specs.Fragments.{defines_owners}
use Rattle.rules.specs.declared.types.Sort.TheVariants.{Op as op}
use Rattle.layout.specs.Columns.{Cols, at, op_region_first, op_region_end, op_result_first, op_result_end, op_operand_first, op_operand_end, op_successor_first, op_successor_end, op_attributes, block_argument_first, block_argument_end, block_attributes}
use Rattle.layout.specs.Reading.{store_of}
use Rattle.copying.specs.declared.totals.Totals.{Totals}

-- a sum of parts of a store can be no larger than the store's totals
pub record TotalsFit (t : Totals) : Type 0 where
  pub ops : t.ops ≤ 512
  pub blocks : t.blocks ≤ 256
  pub regions : t.regions ≤ 256
  pub values : t.values ≤ 2048
  pub operands : t.operands ≤ 2048
  pub successors : t.successors ≤ 512
  pub attributes : t.attributes ≤ 1024

abbrev pub no_totals : Totals
no_totals = record { ops = 0; blocks = 0; regions = 0; values = 0; operands = 0; successors = 0; attributes = 0 }

-- how long row i's range is by two columns
unfoldable pub span_of : Cols → ℕ → ℕ → ℕ → ℕ
span_of C first end i = at C end i - at C first i

unfoldable pub op_totalled : Cols → Totals → ℕ → Totals
op_totalled C t m =
    record {
      ops = t.ops + 1;
      blocks = t.blocks;
      regions = t.regions + span_of C op_region_first op_region_end m;
      values = t.values + span_of C op_result_first op_result_end m;
      operands = t.operands + span_of C op_operand_first op_operand_end m;
      successors = t.successors + span_of C op_successor_first op_successor_end m;
      attributes = t.attributes + at C op_attributes m;
    }

unfoldable pub block_totalled : Cols → Totals → ℕ → Totals
block_totalled C t b =
    record {
      ops = t.ops;
      blocks = t.blocks + 1;
      regions = t.regions;
      values = t.values + span_of C block_argument_first block_argument_end b;
      operands = t.operands;
      successors = t.successors;
      attributes = t.attributes + at C block_attributes b;
    }

unfoldable pub owner_totalled : Cols → Totals → Owner → Totals
owner_totalled C t (of_op m) = op_totalled C t m
owner_totalled C t (of_block b) = block_totalled C t b

unfoldable pub owners_totalled : Cols → Totals → List Owner → Totals
owners_totalled C t [] = t
owners_totalled C t (w ∷ ws) = owners_totalled C (owner_totalled C t w) ws

-- of operation n with all inside it
unfoldable pub totalled : Cols → ℕ → Totals
totalled C n = owners_totalled C no_totals (defines_owners (store_of C) op n)
