-- `put_op` meets its contract: the row is written, and then the operation is placed. Assumes nothing.
use native.Mathlib.Omega.{arith}
use Rattle.layout.specs.Reading.{op_count}
use Rattle.mutation.specs.AddedWrites.{op_written}
use Rattle.mutation.proofs.Operating.{parent_below_lem}
use Rattle.mutation.proofs.operations.put_op.Goals as goal

pub place_op-requires : goal.place_op-requires
unfolding op_count
place_op-requires c = record {
  parent_below = parent_below_lem c.args.store.now c.requires.arranged c.args.fields.parent c.requires.parent_value;
  n_bound = omega (arith, c.requires.op_room.ops, c.number-n.ensures);
}

pub returns : goal.returns
unfolding op_written op_count
returns c = cc
