-- `op_row` meets its contract: each word is told by what was read. Assumes nothing.

use Rattle.layout.specs.Reading.{region_count, value_count, operand_count, successor_count}
use Rattle.mutation.specs.AddedWrites.{op_row}
use Rattle.mutation.proofs.Operating.{parent_below_lem}
use Rattle.mutation.proofs.operations.op_row.Goals as goal

pub parent_word-parent-requires : goal.parent_word-parent-requires
parent_word-parent-requires c =
    parent_below_lem c.args.store.now c.requires.arranged c.args.fields.parent c.requires.parent_value

pub returns : goal.returns
unfolding op_row region_count value_count operand_count successor_count
returns c = cc
