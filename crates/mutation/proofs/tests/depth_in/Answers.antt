-- `depth_in` meets its contract: a block of a laid out buffer stands in a region of an operation. Assumes nothing.
use Rattle.mutation.specs.AddedWrites.{depth_under}
use Rattle.mutation.proofs.Operating.{in_block}
use Rattle.mutation.proofs.tests.depth_in.Goals as goal

pub op_around-requires : goal.op_around-requires
op_around-requires c =
    record { arranged = c.requires.arranged; block_bound = (in_block c.args.store.now c.requires.arranged c.args.b c.requires.b_value).block }

pub returns : goal.returns
unfolding depth_under
returns c = cc
