-- `hash_steps` meets its contract, sort by sort. Assumes nothing.
use Rattle.std.proofs.Common.{◌≡◌, true, subst}
use Rattle.rules.specs.Fragments.{exists, steps}
use Rattle.rules.specs.declared.types.Sort.TheVariants.{Op as op, Block as block, Region as region}
use Rattle.layout.specs.Columns.{columns}
use Rattle.layout.specs.Reading.{store_in}
use Rattle.fragments.specs.Order.{BlocksExist}
use Rattle.fragments.proofs.There.{there}
use Rattle.fragments.specs.Numbered.{DefinitionsFit}
use Rattle.fragments.specs.View.{options_in}
use Rattle.fragments.proofs.Rounds.{block_steps, region_steps_lem, steps_room, steps_done}
use Rattle.hashing.proofs.Parting.{hash_walk}
use Rattle.hashing.proofs.hashes.hash_steps.Goals as goal

pub hash_op-requires : goal.hash_op-requires
hash_op-requires c =
    let b = c.args.view.now.store.now in
    let n = c.args.n in
    let sort = c.in-Op.is in
    let e = subst (λ x. exists (store_in b) x n ≡ true) sort c.requires.n_value in
    let room =
    subst (λ x. DefinitionsFit (store_in b) (steps (store_in b) x n) c.args.numbers.now) sort c.requires.definitions_fit in
    record { n_bound = there (columns b) op n e; definitions_fit = room }

pub hash_blocks_full-requires : goal.hash_blocks_full-requires
unfolding BlocksExist
hash_blocks_full-requires c =
    let b = c.args.view.now.store.now in
    let n = c.args.n in
    let sort = c.in-Block.is in
    let e = subst (λ x. exists (store_in b) x n ≡ true) sort c.requires.n_value in
    let room =
    subst (λ x. DefinitionsFit (store_in b) (steps (store_in b) x n) c.args.numbers.now) sort c.requires.definitions_fit in
    record {
      blocks_exist = there (columns b) block n e;
      definitions_fit = steps_room (hash_walk (store_in b) (options_in c.args.view.now)) (store_in b) block n _ (block_steps (store_in b) n) {a = (c.args.numbers.now, c.args.state.now.word)} room;
    }

pub hash_blocks_full-requires-in-Region : goal.hash_blocks_full-requires-in-Region
unfolding BlocksExist
hash_blocks_full-requires-in-Region c =
    let b = c.args.view.now.store.now in
    let n = c.args.n in
    let sort = c.in-Region.is in
    let e = subst (λ x. exists (store_in b) x n ≡ true) sort c.requires.n_value in
    let room =
    subst (λ x. DefinitionsFit (store_in b) (steps (store_in b) x n) c.args.numbers.now) sort c.requires.definitions_fit in
    record {
      blocks_exist = there (columns b) region n e;
      definitions_fit = steps_room (hash_walk (store_in b) (options_in c.args.view.now)) (store_in b) region n _ (region_steps_lem (store_in b) c.args.view.now.readable.sound.ruled n) {a = (c.args.numbers.now, c.args.state.now.word)} room;
    }

pub returns-in-Op : goal.returns-in-Op
returns-in-Op c = rw c.in-Op.is c.hash_op.ensures

pub returns-in-Block : goal.returns-in-Block
returns-in-Block c =
    let S = store_in c.args.view.now.store.now in
    rw c.in-Block.is (steps_done (hash_walk S (options_in c.args.view.now)) S block c.args.n _ (block_steps S c.args.n) c.hash_blocks_full.ensures)

pub returns-in-Region : goal.returns-in-Region
returns-in-Region c =
    let S = store_in c.args.view.now.store.now in
    rw c.in-Region.is (steps_done (hash_walk S (options_in c.args.view.now)) S region c.args.n _ (region_steps_lem S c.args.view.now.readable.sound.ruled c.args.n) c.hash_blocks_full-in-Region.ensures)
