-- `list_block_shells` meets its contract: a pass through the list, whose step is a block's shell. Assumes nothing.
use Rattle.std.proofs.Common.{◌≡◌, ◌<◌, ◌∷◌, ◌++◌, ap, ◌∙◌, arith}
use Rattle.rules.specs.declared.types.Owner.TheVariants.{Block as of_block}
use Rattle.layout.specs.Columns.{columns}
use Rattle.layout.specs.Reading.{block_count, store_in}
use Rattle.layout.proofs.Laid.{laid_facts}
use Rattle.fragments.specs.BlocksLeft.{blocks_left}
use Rattle.fragments.specs.Order.{block_list}
use Rattle.fragments.proofs.Ordered.{block_in_lem}
use Rattle.fragments.proofs.Yielded.{item_comes, all_came, comes_mem}
use Rattle.fragments.specs.Parts.{block_shells}
use Rattle.fragments.proofs.Passing.{none_came, came_over, came_room, came_again}
use Rattle.fragments.proofs.Rounds.{each_shell_lem}
use Rattle.copying.specs.declared.steps.Step.TheVariants.{BlockShell}
use Rattle.copying.specs.Steps.{step_of}
use Rattle.copying.proofs.Listing.{list_walk, shells_fit, shells_listed, fits_one, listed_one}
use Rattle.copying.proofs.steps.list_block_shells.Goals as goal
use Rattle.copying.proofs.steps.list_block_shells.Goals.{In-Some}

block_comes : (c : In-Some) → c.loop-b.yielded ++ c.in-Some.b ∷ blocks_left c.next.new.self ≡ block_list (store_in c.args.store.now) c.args.blocks
block_comes c =
    item_comes blocks_left _ _ _ _ (ap blocks_left c.into_iter-b-iterator.ensures.into_iter_gives ∙ c.new-b-items.ensures) c.loop-b.yielded_by c.next.new.self _ _ c.in-Some.is c.next.ensures.steps

pub loop-b-init : goal.loop-b-init
loop-b-init c = (_, _, none_came list_walk (each_shell_lem of_block))

pub overflow_cast-b : goal.overflow_cast-b
overflow_cast-b c =
    let turn = block_comes ((goal.at.overflow_cast-b c).In-Some) in
    let here : c.in-Some.b < block_count (columns c.args.store.now) = block_in_lem _ c.args.blocks _ c.requires.blocks_exist (comes_mem _ _ _ _ turn) in
    record { fits = omega (arith, here, (laid_facts (columns c.args.store.now) c.requires.sound.laid).counts.blocks) }

pub push-requires : goal.push-requires
unfolding block_shells step_of
push-requires c =
    let turn = block_comes ((goal.at.push-requires c).In-Some) in
    fits_one (BlockShell c.in-Some.b)
    (came_room list_walk (each_shell_lem of_block) _ c.loop-b.invariant.2 _ _ _ turn (shells_fit of_block (block_list (store_in c.args.store.now) c.args.blocks) c.requires.steps_fit))

pub loop-b-preserved : goal.loop-b-preserved
unfolding step_of
loop-b-preserved c = (_, _, came_again list_walk (each_shell_lem of_block) _ c.loop-b.invariant.2 c.in-Some.b (listed_one (BlockShell c.in-Some.b) c.push.ensures))

pub returns : goal.returns
unfolding block_shells
returns c =
    shells_listed of_block (block_list (store_in c.args.store.now) c.args.blocks)
    (came_over list_walk (each_shell_lem of_block) _ c.loop-b.invariant.2 _
    (all_came blocks_left _ _ _ _ (ap blocks_left c.into_iter-b-iterator.ensures.into_iter_gives ∙ c.new-b-items.ensures) c.loop-b.yielded_by c.next.new.self _ c.in-None.is c.next.ensures.steps))
