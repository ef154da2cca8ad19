-- `next_in` meets its contract: the list is that of the variant. Assumes nothing.
use mathlib.Core.Path.{subst}
use Rattle.layout.specs.Columns.{columns}
use Rattle.fragments.specs.Order.{block_list, BlocksExist}
use Rattle.fragments.proofs.order.next_in.Goals as goal

pub next_block-requires : goal.next_block-requires
unfolding BlocksExist
next_block-requires c =
    record {
      arranged = record { sized = c.requires.sound.sized; laid = c.requires.sound.laid };
      region_bound = subst (BlocksExist (columns c.args.store.now)) c.in-InRegion.is c.requires.blocks_exist;
    }

pub returns-in-InRegion : goal.returns-in-InRegion
unfolding block_list
returns-in-InRegion c = rw c.in-InRegion.is c.next_block.ensures

pub returns-in-Single : goal.returns-in-Single
unfolding block_list
returns-in-Single c = rw c.in-Single.is c.one_from.ensures
