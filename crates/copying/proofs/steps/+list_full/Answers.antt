-- The three calls that go round meet their contracts together: the number of operations below falls from round to round, a pass goes through
-- its list child by child, and once all came, all is listed. Assumes nothing.
use Rattle.std.proofs.Common.{◌≡◌, ℕ, ◌+◌, ◌*◌, ◌<◌, ◌∷◌, ◌++◌, [], List, sym, refl, ap, ap₂, ◌∙◌, subst, arith}
use mathlib.Core.List.{Memᴰ}
use Rattle.std.specs.List.{flat_map}
use Rattle.rules.specs.Store.{Store, ops_of, regions_of}
use Rattle.rules.specs.Fragments.{names, full_op}
use Rattle.rules.specs.Fragments as rules
use Rattle.layout.specs.Columns.{Cols, columns}
use Rattle.layout.specs.OpsLeft.{ops_left}
use Rattle.layout.specs.Reading.{block_count, region_count, store_in}
use Rattle.layout.proofs.Laid.{Laid, laid_facts}
use Rattle.layout.proofs.Ranges.{range, range_empty, regions_range}
use Rattle.fragments.specs.BlocksLeft.{blocks_left}
use Rattle.fragments.specs.Order.{block_list, BlocksExist}
use Rattle.fragments.specs.declared.types.Blocks.TheVariants.{InRegion, Single}
use Rattle.fragments.proofs.Ordered.{block_in_lem, op_in_lem}
use Rattle.fragments.proofs.Below.{below, around_list, around_block, op_falls, around_region}
use Rattle.fragments.proofs.Yielded.{item_comes, all_came, comes_mem, number_comes, number_came}
use Rattle.fragments.specs.Parts.{full_steps, ops_in_full}
use Rattle.fragments.proofs.Passing.{none_came, came_over, came_room, came_again}
use Rattle.fragments.proofs.Rounds.{in_region, region_list, regions_room, full_done, each, first_room, second_room, third_room, passes_done}
use Rattle.copying.specs.declared.steps.Step.TheVariants.{Names}
use Rattle.copying.specs.Steps.{StepsFit, Listed, step_of}
use Rattle.copying.proofs.Listing.{list_walk, fits_one, fit_first, listed_one}
use Rattle.copying.proofs.steps.+list_full.Goals as goal
use Rattle.copying.proofs.steps.+list_full.Goals.{list_blocks_full-In-Some, list_op_full-In-loop-r, list_ops_full-In-Some}

-- ---- a list of blocks

block_comes : (t : ℕ) (c : list_blocks_full-In-Some t) → c.loop-b.yielded ++ c.in-Some.b ∷ blocks_left c.next.new.self ≡ block_list (store_in c.args.store.now) c.args.blocks
block_comes t c =
    item_comes blocks_left _ _ _ _ (ap blocks_left c.into_iter-b-iterator.ensures.into_iter_gives ∙ c.new-b-items.ensures) c.loop-b.yielded_by c.next.new.self _ _ c.in-Some.is c.next.ensures.steps

pub list_blocks_full-list_block_shells-requires : goal.list_blocks_full-list_block_shells-requires
list_blocks_full-list_block_shells-requires t c =
    let steps = first_room list_walk (store_in c.args.store.now) (block_list (store_in c.args.store.now) c.args.blocks) {a = c.args.walk.now} c.requires.steps_fit in
    record { sound = c.requires.sound; blocks_exist = c.requires.blocks_exist; steps_fit = steps }

pub list_blocks_full-list_op_shells-requires : goal.list_blocks_full-list_op_shells-requires
list_blocks_full-list_op_shells-requires t c =
    let steps = second_room list_walk (store_in c.args.store.now) (block_list (store_in c.args.store.now) c.args.blocks) c.list_block_shells.ensures c.requires.steps_fit in
    record { sound = c.requires.sound; blocks_exist = c.requires.blocks_exist; steps_fit = steps }

pub list_blocks_full-loop-b-init : goal.list_blocks_full-loop-b-init
list_blocks_full-loop-b-init t c = (_, _, none_came list_walk (each (ops_in_full (store_in c.args.store.now))))

pub list_blocks_full-list_ops_full-requires : goal.list_blocks_full-list_ops_full-requires
list_blocks_full-list_ops_full-requires t c =
    let S : Store = store_in c.args.store.now in
    let b : ℕ = c.in-Some.b in
    let turn = block_comes t ((goal.at.list_blocks_full-list_ops_full-requires t c).In-Some) in
    let inside : Memᴰ b (block_list S c.args.blocks) = comes_mem _ _ _ _ turn in
    let here : b < block_count (columns c.args.store.now) = block_in_lem _ c.args.blocks _ c.requires.blocks_exist inside in
    let same : around_list S (Single b) ≡ around_list S c.args.blocks = around_block S c.args.blocks b inside in
    let falls : 3 * below S (around_list S (Single b)) < 3 * below S (around_list S c.args.blocks) + 1 = omega arith in
    let third = third_room list_walk S (block_list S c.args.blocks) c.list_block_shells.ensures c.list_op_shells.ensures c.requires.steps_fit in (
      subst (λ (j : ℕ). 3 * below S (around_list S (Single b)) < j) c.decreases falls,
      (c.requires.sound, (here, came_room list_walk (each (ops_in_full S)) _ c.loop-b.invariant.2 _ _ _ turn third)),
    )

pub list_blocks_full-loop-b-preserved : goal.list_blocks_full-loop-b-preserved
list_blocks_full-loop-b-preserved t c =
    (_, _, came_again list_walk (each (ops_in_full (store_in c.args.store.now))) _ c.loop-b.invariant.2 c.in-Some.b c.list_ops_full.ensures)

pub list_blocks_full-returns : goal.list_blocks_full-returns
list_blocks_full-returns t c =
    let S : Store = store_in c.args.store.now in
    passes_done list_walk S (block_list S c.args.blocks) c.list_block_shells.ensures c.list_op_shells.ensures
    (came_over list_walk (each (ops_in_full S)) _ c.loop-b.invariant.2 _
    (all_came blocks_left _ _ _ _ (ap blocks_left c.into_iter-b-iterator.ensures.into_iter_gives ∙ c.new-b-items.ensures) c.loop-b.yielded_by c.next.new.self _ c.in-None.is c.next.ensures.steps))

-- ---- an operation

region_comes : (t : ℕ) (c : list_op_full-In-loop-r t)
    → range c.number-r.result c.loop-r.r ++ c.loop-r.r ∷ range (c.loop-r.r + 1) c.number-r-end.result ≡ regions_of (store_in c.args.store.now) c.args.n
region_comes t c =
    number_comes _ _ _ c.loop-r.auto.r c.loop-r-test.true
    ∙ ap₂ range c.number-r.ensures c.number-r-end.ensures ∙ sym (regions_range _ (laid_facts _ c.requires.sound.laid) c.args.n c.requires.n_bound)

pub list_op_full-overflow_cast-n : goal.list_op_full-overflow_cast-n
list_op_full-overflow_cast-n t c =
    record { fits = omega (arith, (laid_facts (columns c.args.store.now) c.requires.sound.laid).counts.ops, c.requires.n_bound) }

pub list_op_full-push-requires : goal.list_op_full-push-requires
unfolding full_steps full_op step_of
list_op_full-push-requires t c = fits_one (Names c.args.n) (fit_first (names c.args.n ∷ []) _ c.requires.steps_fit)

pub list_op_full-number-r-requires-clause-n_bound : goal.list_op_full-number-r-requires-clause-n_bound
list_op_full-number-r-requires-clause-n_bound t c = omega (arith, (laid_facts _ c.requires.sound.laid).counts.ops, c.requires.n_bound)

pub list_op_full-number-r-end-requires-clause-n_bound : goal.list_op_full-number-r-end-requires-clause-n_bound
list_op_full-number-r-end-requires-clause-n_bound t c = omega (arith, (laid_facts _ c.requires.sound.laid).counts.ops, c.requires.n_bound)

pub list_op_full-loop-r-init : goal.list_op_full-loop-r-init
list_op_full-loop-r-init t c =
    subst (λ (xs : List ℕ). Listed (flat_map (in_region (store_in c.args.store.now)) xs) c.push.new.self c.push.new.self) (sym (range_empty _ _ (omega arith)))
    (none_came list_walk (each (in_region (store_in c.args.store.now))))

pub list_op_full-list_blocks_full-requires : goal.list_op_full-list_blocks_full-requires
unfolding BlocksExist step_of
list_op_full-list_blocks_full-requires t c =
    let S : Store = store_in c.args.store.now in
    let n : ℕ = c.args.n in
    let r : ℕ = c.loop-r.r in
    let laid : Laid (columns c.args.store.now) = laid_facts _ c.requires.sound.laid in
    let turn = region_comes t ((goal.at.list_op_full-list_blocks_full-requires t c).In-loop-r) in
    let here : r < region_count (columns c.args.store.now) = omega (arith, c.loop-r-test.true, c.number-r-end.ensures, (laid.op n c.requires.n_bound).regions.range.fits) in
    let around : around_list S (InRegion r) ≡ n = around_region S n r (comes_mem _ _ _ _ turn) in
    let falls : 3 * below S (around_list S (InRegion r)) + 1 < 3 * below S n + 2 = omega arith in
    let all = regions_room list_walk S n (listed_one (Names n) c.push.ensures) (regions_of S n) refl c.requires.steps_fit in
    let room = came_room list_walk (each (in_region S)) _ c.loop-r.invariant _ _ _ turn all in (
      subst (λ (j : ℕ). 3 * below S (around_list S (InRegion r)) + 1 < j) c.decreases falls,
      (c.requires.sound, (here, subst (λ (xs : List rules.Step). StepsFit xs c.loop-r.walk) (region_list S c.requires.sound.ruled r) room)),
    )

pub list_op_full-loop-r-preserved : goal.list_op_full-loop-r-preserved
list_op_full-loop-r-preserved t c =
    let S : Store = store_in c.args.store.now in
    let r : ℕ = c.loop-r.r in
    let one = subst (λ (xs : List rules.Step). Listed xs c.loop-r.walk c.list_blocks_full.new.walk) (sym (region_list S c.requires.sound.ruled r)) c.list_blocks_full.ensures in
    subst (λ (xs : List ℕ). Listed (flat_map (in_region S) xs) c.push.new.self c.list_blocks_full.new.walk) (sym (number_came _ _ c.loop-r.auto.r))
    (came_again list_walk (each (in_region S)) _ c.loop-r.invariant r one)

pub list_op_full-returns : goal.list_op_full-returns
unfolding step_of
list_op_full-returns t c =
    let S : Store = store_in c.args.store.now in
    let C : Cols = columns c.args.store.now in
    let laid : Laid C = laid_facts C c.requires.sound.laid in
    let rises = (laid.op c.args.n c.requires.n_bound).regions.range.rises in
    let done : c.loop-r.r ≡ c.number-r-end.result = omega (arith, c.loop-r-test.false, c.loop-r.auto, c.number-r.ensures, c.number-r-end.ensures, rises) in
    let all = ap₂ range c.number-r.ensures (done ∙ c.number-r-end.ensures) ∙ sym (regions_range C laid c.args.n c.requires.n_bound) in
    full_done list_walk S c.args.n (listed_one (Names c.args.n) c.push.ensures) (regions_of S c.args.n) refl
    (came_over list_walk (each (in_region S)) _ c.loop-r.invariant _ all)

-- ---- the operations of a block

op_comes : (t : ℕ) (c : list_ops_full-In-Some t) → c.loop-n.yielded ++ c.in-Some.n ∷ ops_left c.next.new.self ≡ ops_of (store_in c.args.store.now) c.args.b
op_comes t c =
    item_comes ops_left _ _ _ _ (ap ops_left c.into_iter-n-iterator.ensures.into_iter_gives ∙ c.new-n-items.ensures) c.loop-n.yielded_by c.next.new.self _ _ c.in-Some.is c.next.ensures.steps

pub list_ops_full-loop-n-init : goal.list_ops_full-loop-n-init
list_ops_full-loop-n-init t c = (_, _, none_came list_walk (each (full_steps (store_in c.args.store.now))))

pub list_ops_full-list_op_full-requires : goal.list_ops_full-list_op_full-requires
unfolding ops_in_full block_list
list_ops_full-list_op_full-requires t c =
    let S : Store = store_in c.args.store.now in
    let n : ℕ = c.in-Some.n in
    let turn = op_comes t ((goal.at.list_ops_full-list_op_full-requires t c).In-Some) in
    let inside : Memᴰ n (ops_of S c.args.b) = comes_mem _ _ _ _ turn in
    let fewer : below S n < below S (around_list S (Single c.args.b)) = op_falls S c.requires.sound.ruled (Single c.args.b) c.args.b n (Memᴰ.head refl) inside in
    let falls : 3 * below S n + 2 < 3 * below S (around_list S (Single c.args.b)) = omega arith in (
      subst (λ (j : ℕ). 3 * below S n + 2 < j) c.decreases falls,
      (c.requires.sound, (op_in_lem _ _ _ inside, came_room list_walk (each (full_steps S)) _ c.loop-n.invariant.2 _ _ _ turn c.requires.steps_fit)),
    )

pub list_ops_full-loop-n-preserved : goal.list_ops_full-loop-n-preserved
list_ops_full-loop-n-preserved t c =
    (_, _, came_again list_walk (each (full_steps (store_in c.args.store.now))) _ c.loop-n.invariant.2 c.in-Some.n c.list_op_full.ensures)

pub list_ops_full-returns : goal.list_ops_full-returns
unfolding ops_in_full
list_ops_full-returns t c =
    came_over list_walk (each (full_steps (store_in c.args.store.now))) _ c.loop-n.invariant.2 _
    (all_came ops_left _ _ _ _ (ap ops_left c.into_iter-n-iterator.ensures.into_iter_gives ∙ c.new-n-items.ensures) c.loop-n.yielded_by c.next.new.self _ c.in-None.is c.next.ensures.steps)
