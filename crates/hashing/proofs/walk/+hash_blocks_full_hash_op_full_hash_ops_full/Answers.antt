-- The three calls that go round meet their contracts together: the number of operations below falls from round to round, and in each loop the
-- steps of what came are done. Assumes nothing.
use Rattle.std.proofs.Common.{◌≡◌, ℕ, ◌+◌, ◌*◌, ◌<◌, List, ◌∷◌, ◌++◌, sym, refl, ap, ◌∙◌, subst, ap₂, arith}
use mathlib.Core.List.{Memᴰ}
use Rattle.std.specs.List.{flat_map}
use Rattle.rules.specs.Store.{ops_of, regions_of}
use Rattle.rules.specs.Fragments.{Step}
use Rattle.layout.specs.Columns.{columns}
use Rattle.layout.specs.OpsLeft.{ops_left}
use Rattle.layout.specs.Reading.{region_count, store_in}
use Rattle.layout.proofs.Laid.{Laid, laid_facts}
use Rattle.layout.proofs.Ranges.{range, range_empty, regions_range}
use Rattle.fragments.specs.BlocksLeft.{blocks_left}
use Rattle.fragments.specs.View.{options_in}
use Rattle.fragments.specs.Order.{block_list, BlocksExist}
use Rattle.fragments.specs.declared.types.Blocks.TheVariants.{InRegion, Single}
use Rattle.fragments.proofs.Below.{below, around_list, around_block, op_falls, around_region}
use Rattle.fragments.proofs.Ordered.{block_in_lem, op_in_lem}
use Rattle.fragments.proofs.Yielded.{item_comes, all_came, comes_mem, number_comes, number_came}
use Rattle.fragments.specs.Numbered.{DefinitionsFit}
use Rattle.fragments.specs.Parts.{full_steps, ops_in_full}
use Rattle.fragments.proofs.Passing.{none_came, came_room, came_again}
use Rattle.fragments.proofs.Rounds.{in_region, region_list, regions_room, full_done, each, first_room, second_room, third_room, passes_done}
use Rattle.hashing.specs.Walked.{Feeds}
use Rattle.hashing.proofs.Parting.{hash_walk}
use Rattle.hashing.proofs.walk.+hash_blocks_full_hash_op_full_hash_ops_full.Goals as goal
use Rattle.hashing.proofs.walk.+hash_blocks_full_hash_op_full_hash_ops_full.Goals.{hash_blocks_full-In-Some, hash_ops_full-In-Some, hash_op_full-In-loop-r}

-- ---- a list of blocks

block_comes : (t : ℕ) (c : hash_blocks_full-In-Some t) → c.loop-b.yielded ++ c.in-Some.b ∷ blocks_left c.next.new.self ≡ block_list (store_in c.args.view.now.store.now) c.args.blocks
block_comes t c =
    item_comes blocks_left _ _ _ _ (ap blocks_left c.into_iter-b-iterator.ensures.into_iter_gives ∙ c.new-b-items.ensures) c.loop-b.yielded_by c.next.new.self _ _ c.in-Some.is c.next.ensures.steps

pub hash_blocks_full-hash_block_shells-requires : goal.hash_blocks_full-hash_block_shells-requires
hash_blocks_full-hash_block_shells-requires t c =
    record {
      blocks_exist = c.requires.blocks_exist;
      definitions_fit = first_room (hash_walk _ (options_in c.args.view.now)) _ _ {a = (c.args.numbers.now, c.args.state.now.word)} c.requires.definitions_fit;
    }

pub hash_blocks_full-hash_op_shells-requires : goal.hash_blocks_full-hash_op_shells-requires
hash_blocks_full-hash_op_shells-requires t c =
    record {
      blocks_exist = c.requires.blocks_exist;
      definitions_fit = second_room (hash_walk _ _) _ _ c.hash_block_shells.ensures c.requires.definitions_fit;
    }

pub hash_blocks_full-loop-b-init : goal.hash_blocks_full-loop-b-init
hash_blocks_full-loop-b-init t c = none_came (hash_walk _ _) (each (ops_in_full (store_in c.args.view.now.store.now))) {a = (c.hash_op_shells.new.numbers, c.hash_op_shells.new.state.word)}

pub hash_blocks_full-hash_ops_full-requires : goal.hash_blocks_full-hash_ops_full-requires
hash_blocks_full-hash_ops_full-requires t c =
    let S = store_in c.args.view.now.store.now in
    let turn = block_comes t ((goal.at.hash_blocks_full-hash_ops_full-requires t c).In-Some) in
    let inside = comes_mem _ _ _ _ turn in
    let same : around_list S (Single c.in-Some.b) ≡ around_list S c.args.blocks = around_block S c.args.blocks c.in-Some.b inside in
    let falls : 3 * below S (around_list S (Single c.in-Some.b)) < 3 * below S (around_list S c.args.blocks) + 1 = omega arith in
    let third = third_room (hash_walk S (options_in c.args.view.now)) S _ c.hash_block_shells.ensures c.hash_op_shells.ensures c.requires.definitions_fit in (
      subst (λ (j : ℕ). 3 * below S (around_list S (Single c.in-Some.b)) < j) c.decreases falls,
      (
        block_in_lem (columns c.args.view.now.store.now) c.args.blocks _ c.requires.blocks_exist inside,
        came_room (hash_walk _ _) (each (ops_in_full S)) c.loop-b.yielded c.loop-b.invariant c.in-Some.b _ _ turn third,
      ),
    )

pub hash_blocks_full-loop-b-preserved : goal.hash_blocks_full-loop-b-preserved
hash_blocks_full-loop-b-preserved t c = came_again (hash_walk _ _) (each (ops_in_full (store_in c.args.view.now.store.now))) c.loop-b.yielded c.loop-b.invariant c.in-Some.b c.hash_ops_full.ensures

pub hash_blocks_full-returns : goal.hash_blocks_full-returns
hash_blocks_full-returns t c =
    let S = store_in c.args.view.now.store.now in
    let came = all_came blocks_left _ _ _ _ (ap blocks_left c.into_iter-b-iterator.ensures.into_iter_gives ∙ c.new-b-items.ensures) c.loop-b.yielded_by c.next.new.self _ c.in-None.is c.next.ensures.steps in
    passes_done (hash_walk _ _) S _ c.hash_block_shells.ensures c.hash_op_shells.ensures
    (subst (λ xs. Feeds S (options_in c.args.view.now) (flat_map (ops_in_full S) xs) c.hash_op_shells.new.numbers c.loop-b.numbers c.hash_op_shells.new.state.word c.loop-b.state.word) came c.loop-b.invariant)

-- ---- an operation

region_comes : (t : ℕ) (c : hash_op_full-In-loop-r t)
    → range c.number-r.result c.loop-r.r ++ c.loop-r.r ∷ range (c.loop-r.r + 1) c.number-r-end.result ≡ regions_of (store_in c.args.view.now.store.now) c.args.n
region_comes t c =
    number_comes _ _ _ c.loop-r.auto.r c.loop-r-test.true
    ∙ ap₂ range c.number-r.ensures c.number-r-end.ensures ∙ sym (regions_range _ (laid_facts _ c.args.view.now.readable.sound.laid) c.args.n c.requires.n_bound)

pub hash_op_full-number-r-requires-clause-n_bound : goal.hash_op_full-number-r-requires-clause-n_bound
hash_op_full-number-r-requires-clause-n_bound t c = omega (arith, (laid_facts _ c.args.view.now.readable.sound.laid).counts.ops, c.requires.n_bound)

pub hash_op_full-number-r-end-requires-clause-n_bound : goal.hash_op_full-number-r-end-requires-clause-n_bound
hash_op_full-number-r-end-requires-clause-n_bound t c = omega (arith, (laid_facts _ c.args.view.now.readable.sound.laid).counts.ops, c.requires.n_bound)

pub hash_op_full-loop-r-init : goal.hash_op_full-loop-r-init
hash_op_full-loop-r-init t c =
    let S = store_in c.args.view.now.store.now in
    let o = options_in c.args.view.now in
    subst (λ xs. Feeds S o (flat_map (in_region S) xs) c.args.numbers.now c.args.numbers.now c.hash_names.new.state.word c.hash_names.new.state.word) (sym (range_empty c.number-r.result c.number-r.result (omega arith)))
    (none_came (hash_walk S o) (each (in_region S)) {a = (c.args.numbers.now, c.hash_names.new.state.word)})

pub hash_op_full-hash_blocks_full-requires : goal.hash_op_full-hash_blocks_full-requires
unfolding BlocksExist
hash_op_full-hash_blocks_full-requires t c =
    let S = store_in c.args.view.now.store.now in
    let n = c.args.n in
    let r = c.loop-r.r in
    let walk = hash_walk S (options_in c.args.view.now) in
    let turn = region_comes t ((goal.at.hash_op_full-hash_blocks_full-requires t c).In-loop-r) in
    let laid : Laid (columns c.args.view.now.store.now) = laid_facts _ c.args.view.now.readable.sound.laid in
    let here : r < region_count (columns c.args.view.now.store.now) = omega (arith, c.loop-r-test.true, c.number-r-end.ensures, (laid.op c.args.n c.requires.n_bound).regions.range.fits) in
    let around : around_list S (InRegion r) ≡ n = around_region S n r (comes_mem _ _ _ _ turn) in
    let falls : 3 * below S (around_list S (InRegion r)) + 1 < 3 * below S n + 2 = omega arith in
    let all = regions_room walk S n (c.hash_names.ensures (options_in c.args.view.now)) _ refl c.requires.definitions_fit in
    let room = came_room walk (each (in_region S)) (range c.number-r.result r) c.loop-r.invariant r _ _ turn all in (
      subst (λ (j : ℕ). 3 * below S (around_list S (InRegion r)) + 1 < j) c.decreases falls,
      (here, subst (λ (xs : List Step). DefinitionsFit S xs c.loop-r.numbers) (region_list S c.args.view.now.readable.sound.ruled r) room),
    )

pub hash_op_full-loop-r-preserved : goal.hash_op_full-loop-r-preserved
hash_op_full-loop-r-preserved t c =
    let S = store_in c.args.view.now.store.now in
    let o = options_in c.args.view.now in
    let m = c.loop-r in
    let new = c.hash_blocks_full.new in
    let one = subst (λ (xs : List Step). Feeds S o xs m.numbers new.numbers m.state.word new.state.word) (sym (region_list S c.args.view.now.readable.sound.ruled m.r)) c.hash_blocks_full.ensures in
    subst (λ xs. Feeds S o (flat_map (in_region S) xs) c.args.numbers.now new.numbers c.hash_names.new.state.word new.state.word) (sym (number_came c.number-r.result m.r m.auto.r))
    (came_again (hash_walk S o) (each (in_region S)) (range c.number-r.result m.r) m.invariant m.r one)

pub hash_op_full-returns : goal.hash_op_full-returns
hash_op_full-returns t c =
    let C = columns c.args.view.now.store.now in
    let S = store_in c.args.view.now.store.now in
    let laid : Laid C = laid_facts C c.args.view.now.readable.sound.laid in
    let rises = (laid.op c.args.n c.requires.n_bound).regions.range.rises in
    let done : c.loop-r.r ≡ c.number-r-end.result = omega (arith, c.loop-r-test.false, c.loop-r.auto, c.number-r.ensures, c.number-r-end.ensures, rises) in
    let all = regions_range C laid c.args.n c.requires.n_bound ∙ sym (ap₂ range c.number-r.ensures (done ∙ c.number-r-end.ensures)) in
    full_done (hash_walk S (options_in c.args.view.now)) S c.args.n (c.hash_names.ensures (options_in c.args.view.now)) _ all c.loop-r.invariant

-- ---- the operations of a block

op_comes : (t : ℕ) (c : hash_ops_full-In-Some t) → c.loop-n.yielded ++ c.in-Some.n ∷ ops_left c.next.new.self ≡ ops_of (store_in c.args.view.now.store.now) c.args.b
op_comes t c =
    item_comes ops_left _ _ _ _ (ap ops_left c.into_iter-n-iterator.ensures.into_iter_gives ∙ c.new-n-items.ensures) c.loop-n.yielded_by c.next.new.self _ _ c.in-Some.is c.next.ensures.steps

pub hash_ops_full-loop-n-init : goal.hash_ops_full-loop-n-init
hash_ops_full-loop-n-init t c = none_came (hash_walk _ _) (each (full_steps (store_in c.args.view.now.store.now))) {a = (c.args.numbers.now, c.args.state.now.word)}

pub hash_ops_full-hash_op_full-requires : goal.hash_ops_full-hash_op_full-requires
unfolding ops_in_full block_list
hash_ops_full-hash_op_full-requires t c =
    let S = store_in c.args.view.now.store.now in
    let n = c.in-Some.n in
    let turn = op_comes t ((goal.at.hash_ops_full-hash_op_full-requires t c).In-Some) in
    let inside = comes_mem _ _ _ _ turn in
    let fewer : below S n < below S (around_list S (Single c.args.b)) =
    op_falls S c.args.view.now.readable.sound.ruled (Single c.args.b) c.args.b n (Memᴰ.head refl) inside in
    let falls : 3 * below S n + 2 < 3 * below S (around_list S (Single c.args.b)) = omega arith in (
      subst (λ (j : ℕ). 3 * below S n + 2 < j) c.decreases falls,
      (
        op_in_lem (columns c.args.view.now.store.now) c.args.b _ inside,
        came_room (hash_walk _ _) (each (full_steps S)) c.loop-n.yielded c.loop-n.invariant n _ _ turn c.requires.definitions_fit,
      ),
    )

pub hash_ops_full-loop-n-preserved : goal.hash_ops_full-loop-n-preserved
hash_ops_full-loop-n-preserved t c = came_again (hash_walk _ _) (each (full_steps (store_in c.args.view.now.store.now))) c.loop-n.yielded c.loop-n.invariant c.in-Some.n c.hash_op_full.ensures

pub hash_ops_full-returns : goal.hash_ops_full-returns
unfolding ops_in_full
hash_ops_full-returns t c =
    let S = store_in c.args.view.now.store.now in
    let came = all_came ops_left _ _ _ _ (ap ops_left c.into_iter-n-iterator.ensures.into_iter_gives ∙ c.new-n-items.ensures) c.loop-n.yielded_by c.next.new.self _ c.in-None.is c.next.ensures.steps in
    subst (λ xs. Feeds S (options_in c.args.view.now) (flat_map (full_steps S) xs) c.args.numbers.now c.loop-n.numbers c.args.state.now.word c.loop-n.state.word) came c.loop-n.invariant
