-- `list_op_shells` meets its contract: a pass through the list, whose step is a block's operations. Assumes nothing.
use Rattle.std.proofs.Common.{◌≡◌, ◌∷◌, ◌++◌, ap, ◌∙◌}
use Rattle.layout.specs.Columns.{columns}
use Rattle.layout.specs.Reading.{store_in}
use Rattle.fragments.specs.BlocksLeft.{blocks_left}
use Rattle.fragments.specs.Order.{block_list}
use Rattle.fragments.proofs.Ordered.{block_in_lem}
use Rattle.fragments.proofs.Yielded.{item_comes, comes_mem}
use Rattle.fragments.specs.Parts.{op_shells}
use Rattle.fragments.proofs.Passing.{none_came, came_room, came_again}
use Rattle.fragments.proofs.Rounds.{each}
use Rattle.copying.proofs.Listing.{list_walk}
use Rattle.copying.proofs.steps.list_op_shells.Goals as goal
use Rattle.copying.proofs.steps.list_op_shells.Goals.{In-Some}

block_comes : (c : In-Some) → c.loop-b.yielded ++ c.in-Some.b ∷ blocks_left c.next.new.self ≡ block_list (store_in c.args.store.now) c.args.blocks
block_comes c =
    item_comes blocks_left _ _ _ _ (ap blocks_left c.into_iter-b-iterator.ensures.into_iter_gives ∙ c.new-b-items.ensures) c.loop-b.yielded_by c.next.new.self _ _ c.in-Some.is c.next.ensures.steps

pub loop-b-init : goal.loop-b-init
loop-b-init c = (_, _, none_came list_walk (each (op_shells (store_in c.args.store.now))))

pub list_op_shells_in-requires : goal.list_op_shells_in-requires
list_op_shells_in-requires c =
    let turn = block_comes ((goal.at.list_op_shells_in-requires c).In-Some) in
    record {
      sound = c.requires.sound;
      b_bound = block_in_lem (columns c.args.store.now) c.args.blocks _ c.requires.blocks_exist (comes_mem _ _ _ _ turn);
      steps_fit = came_room list_walk (each (op_shells (store_in c.args.store.now))) _ c.loop-b.invariant.2 _ _ _ turn c.requires.steps_fit;
    }

pub loop-b-preserved : goal.loop-b-preserved
loop-b-preserved c =
    (_, _, came_again list_walk (each (op_shells (store_in c.args.store.now))) _ c.loop-b.invariant.2 c.in-Some.b c.list_op_shells_in.ensures)
