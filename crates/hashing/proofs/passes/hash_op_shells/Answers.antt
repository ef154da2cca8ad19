-- `hash_op_shells` meets its contract: the steps of the blocks that came are done, which are those of their operations. Assumes nothing.
use Rattle.std.proofs.Common.{◌≡◌, ◌∷◌, ◌++◌, ap, ◌∙◌, subst}
use Rattle.std.specs.List.{flat_map}
use Rattle.layout.specs.Columns.{columns}
use Rattle.layout.specs.Reading.{store_in}
use Rattle.fragments.specs.BlocksLeft.{blocks_left}
use Rattle.fragments.specs.View.{options_in}
use Rattle.fragments.specs.Order.{block_list}
use Rattle.fragments.proofs.Ordered.{block_in_lem}
use Rattle.fragments.proofs.Yielded.{item_comes, all_came, comes_mem}
use Rattle.fragments.specs.Parts.{op_shells}
use Rattle.fragments.proofs.Passing.{none_came, came_room, came_again}
use Rattle.fragments.proofs.Rounds.{each}
use Rattle.hashing.specs.Walked.{Feeds}
use Rattle.hashing.proofs.Parting.{hash_walk}
use Rattle.hashing.proofs.passes.hash_op_shells.Goals as goal
use Rattle.hashing.proofs.passes.hash_op_shells.Goals.{In-Some}

block_comes : (c : In-Some) → c.loop-b.yielded ++ c.in-Some.b ∷ blocks_left c.next.new.self ≡ block_list (store_in c.args.view.now.store.now) c.args.blocks
block_comes c =
    item_comes blocks_left _ _ _ _ (ap blocks_left c.into_iter-b-iterator.ensures.into_iter_gives ∙ c.new-b-items.ensures) c.loop-b.yielded_by c.next.new.self _ _ c.in-Some.is c.next.ensures.steps

pub loop-b-init : goal.loop-b-init
loop-b-init c = none_came (hash_walk _ _) (each (op_shells (store_in c.args.view.now.store.now))) {a = (c.args.numbers.now, c.args.state.now.word)}

pub hash_op_shells_in-requires : goal.hash_op_shells_in-requires
hash_op_shells_in-requires c =
    let turn = block_comes ((goal.at.hash_op_shells_in-requires c).In-Some) in
    record {
      b_bound = block_in_lem (columns c.args.view.now.store.now) c.args.blocks _ c.requires.blocks_exist (comes_mem _ _ _ _ turn);
      definitions_fit = came_room (hash_walk _ _) (each (op_shells (store_in c.args.view.now.store.now))) c.loop-b.yielded c.loop-b.invariant c.in-Some.b _ _ turn c.requires.definitions_fit;
    }

pub loop-b-preserved : goal.loop-b-preserved
loop-b-preserved c = came_again (hash_walk _ _) (each (op_shells (store_in c.args.view.now.store.now))) c.loop-b.yielded c.loop-b.invariant c.in-Some.b c.hash_op_shells_in.ensures

pub returns : goal.returns
returns c =
    let came = all_came blocks_left _ _ _ _ (ap blocks_left c.into_iter-b-iterator.ensures.into_iter_gives ∙ c.new-b-items.ensures) c.loop-b.yielded_by c.next.new.self _ c.in-None.is c.next.ensures.steps in
    subst (λ xs. Feeds (store_in c.args.view.now.store.now) (options_in c.args.view.now) (flat_map (op_shells (store_in c.args.view.now.store.now)) xs) c.args.numbers.now c.loop-b.numbers c.args.state.now.word c.loop-b.state.word) came c.loop-b.invariant
