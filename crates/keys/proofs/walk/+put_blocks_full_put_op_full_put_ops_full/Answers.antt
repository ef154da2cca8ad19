-- The three calls that go round meet their contracts together: the number of operations below falls from round to round, what comes is written
-- behind what came, and once all came, all is. Assumes nothing.
use Prim.Native.Nat.{ℕ, ◌+◌, ◌*◌, ◌<◌}
use native.Mathlib.Omega.{arith}
use mathlib.Core.List.{List, Memᴰ, ◌++◌, ◌∷◌}
use mathlib.Core.Path.{◌≡◌, refl, sym, ap, ap₂, subst, ◌∙◌}
use Rattle.std.specs.List.{flat_map}
use Rattle.rules.specs.Store.{Store, ops_of, regions_of}
use Rattle.rules.specs.Fragments.{Step}
use Rattle.layout.specs.Columns.{columns}
use Rattle.layout.specs.OpsLeft.{ops_left}
use Rattle.layout.specs.Reading.{region_count}
use Rattle.layout.proofs.Laid.{Laid, laid_facts}
use Rattle.layout.proofs.Ranges.{range, range_empty, regions_range}
use Rattle.fragments.specs.BlocksLeft.{blocks_left}
use Rattle.fragments.specs.Order.{block_list, BlocksExist}
use Rattle.fragments.specs.declared.types.Blocks.TheVariants.{InRegion, Single}
use Rattle.fragments.proofs.Below.{below, around_list, around_block, op_falls, around_region}
use Rattle.fragments.proofs.Ordered.{block_in_lem, op_in_lem}
use Rattle.fragments.proofs.Yielded.{item_comes, all_came, comes_mem, number_comes, number_came}
use Rattle.fragments.specs.Parts.{full_steps, ops_in_full}
use Rattle.fragments.proofs.Passing.{StepRelation, none_came, came_over, came_room, came_again}
use Rattle.fragments.proofs.Rounds.{in_region, region_list, regions_room, full_done, each, first_room, second_room, third_room, passes_done}
use Rattle.fragments.specs.View.{store_read, options_in}
use Rattle.keys.proofs.Writing.{Spot, spot, key_walk, wrote_as, wrote_first, wrote_rest, wrote_all}
use Rattle.keys.proofs.walk.+put_blocks_full_put_op_full_put_ops_full.Goals as goal
use Rattle.keys.proofs.walk.+put_blocks_full_put_op_full_put_ops_full.Goals.{put_op_full-In-loop-r}

-- ---- a list of blocks

pub put_blocks_full-put_block_shells-second-requires-clause-definitions_fit : goal.put_blocks_full-put_block_shells-second-requires-clause-definitions_fit
put_blocks_full-put_block_shells-second-requires-clause-definitions_fit t c =
    let store : Store = store_read c.args.view.now in
    let walk : StepRelation Spot = key_walk store (options_in c.args.view.now) in
    first_room walk store (block_list store c.args.blocks) {a = spot c.args.numbers.now c.args.key.now 0} c.requires.definitions_fit

pub put_blocks_full-put_op_shells-requires-clause-definitions_fit : goal.put_blocks_full-put_op_shells-requires-clause-definitions_fit
put_blocks_full-put_op_shells-requires-clause-definitions_fit t c =
    let store : Store = store_read c.args.view.now in
    let walk : StepRelation Spot = key_walk store (options_in c.args.view.now) in
    second_room walk store (block_list store c.args.blocks) (wrote_first store (options_in c.args.view.now) c.put_block_shells-second.ensures) c.requires.definitions_fit

pub put_blocks_full-loop-b-init : goal.put_blocks_full-loop-b-init
put_blocks_full-loop-b-init t c =
    let store : Store = store_read c.args.view.now in
    let walk : StepRelation Spot = key_walk store (options_in c.args.view.now) in
    (_, _, none_came walk (each (ops_in_full store)))

pub put_blocks_full-put_ops_full-requires : goal.put_blocks_full-put_ops_full-requires
put_blocks_full-put_ops_full-requires t c =
    let store : Store = store_read c.args.view.now in
    let walk : StepRelation Spot = key_walk store (options_in c.args.view.now) in
    let list : List ℕ = block_list store c.args.blocks in
    let b : ℕ = c.in-Some.b in
    let turn =
    item_comes blocks_left _ _ _ _ (ap blocks_left c.into_iter-b-iterator.ensures.into_iter_gives ∙ c.new-b-items.ensures) c.loop-b.yielded_by
    c.next.new.self _ _ c.in-Some.is c.next.ensures.steps in
    let child : Memᴰ b list = comes_mem _ _ _ _ turn in
    let here = block_in_lem (columns c.args.view.now.store.now) c.args.blocks b c.requires.blocks_exist child in
    let room =
    came_room walk (each (ops_in_full store)) c.loop-b.yielded c.loop-b.invariant.2 b _ list turn
    (third_room walk store list (wrote_first store (options_in c.args.view.now) c.put_block_shells-second.ensures)
    (wrote_rest store (options_in c.args.view.now) c.min-rest.ensures c.put_op_shells.ensures c.saturating_add-at.ensures) c.requires.definitions_fit) in
    let same : around_list store (Single b) ≡ around_list store c.args.blocks = around_block store c.args.blocks b child in
    let falls : 3 * below store (around_list store (Single b)) < 3 * below store (around_list store c.args.blocks) + 1 = omega arith in
    (subst (λ (j : ℕ). 3 * below store (around_list store (Single b)) < j) c.decreases falls, (here, room))

pub put_blocks_full-loop-b-preserved : goal.put_blocks_full-loop-b-preserved
put_blocks_full-loop-b-preserved t c =
    let store : Store = store_read c.args.view.now in
    let walk : StepRelation Spot = key_walk store (options_in c.args.view.now) in (
      _,
      _,
      came_again walk (each (ops_in_full store)) c.loop-b.yielded c.loop-b.invariant.2 c.in-Some.b
          (wrote_rest store (options_in c.args.view.now) c.min-rest-in-loop-b.ensures c.put_ops_full.ensures c.saturating_add-at-in-loop-b.ensures),
    )

pub put_blocks_full-returns : goal.put_blocks_full-returns
put_blocks_full-returns t c =
    let store : Store = store_read c.args.view.now in
    let walk : StepRelation Spot = key_walk store (options_in c.args.view.now) in
    let list : List ℕ = block_list store c.args.blocks in
    let all =
    all_came blocks_left _ _ _ _ (ap blocks_left c.into_iter-b-iterator.ensures.into_iter_gives ∙ c.new-b-items.ensures) c.loop-b.yielded_by
    c.next.new.self _ c.in-None.is c.next.ensures.steps in
    let options = options_in c.args.view.now in
    wrote_all store options (omega arith)
    (passes_done walk store list (wrote_first store options c.put_block_shells-second.ensures)
    (wrote_rest store options c.min-rest.ensures c.put_op_shells.ensures c.saturating_add-at.ensures)
    (came_over walk (each (ops_in_full store)) c.loop-b.yielded c.loop-b.invariant.2 list all))

-- ---- an operation

-- a region comes
region_comes : (t : ℕ) (c : put_op_full-In-loop-r t)
    → range c.number-r.result c.loop-r.r ++ c.loop-r.r ∷ range (c.loop-r.r + 1) c.number-r-end.result ≡ regions_of (store_read c.args.view.now) c.args.n
region_comes t c =
    number_comes _ _ _ c.loop-r.auto.r c.loop-r-test.true
    ∙ ap₂ range c.number-r.ensures c.number-r-end.ensures
    ∙ sym (regions_range _ (laid_facts _ c.args.view.now.readable.sound.laid) c.args.n c.requires.n_bound)

pub put_op_full-number-r-requires-clause-n_bound : goal.put_op_full-number-r-requires-clause-n_bound
put_op_full-number-r-requires-clause-n_bound t c = omega (arith, (laid_facts _ c.args.view.now.readable.sound.laid).counts.ops, c.requires.n_bound)

pub put_op_full-number-r-end-requires-clause-n_bound : goal.put_op_full-number-r-end-requires-clause-n_bound
put_op_full-number-r-end-requires-clause-n_bound t c = omega (arith, (laid_facts _ c.args.view.now.readable.sound.laid).counts.ops, c.requires.n_bound)

pub put_op_full-loop-r-init : goal.put_op_full-loop-r-init
put_op_full-loop-r-init t c =
    let store : Store = store_read c.args.view.now in
    let walk : StepRelation Spot = key_walk store (options_in c.args.view.now) in
    wrote_as store (options_in c.args.view.now) (ap (flat_map (in_region store)) (sym (range_empty _ _ (omega arith))))
    (none_came walk (each (in_region store)))

pub put_op_full-put_blocks_full-requires : goal.put_op_full-put_blocks_full-requires
unfolding BlocksExist
put_op_full-put_blocks_full-requires t c =
    let store : Store = store_read c.args.view.now in
    let walk : StepRelation Spot = key_walk store (options_in c.args.view.now) in
    let n : ℕ = c.args.n in
    let r : ℕ = c.loop-r.r in
    let laid : Laid (columns c.args.view.now.store.now) = laid_facts _ c.args.view.now.readable.sound.laid in
    let turn = region_comes t ((goal.at.put_op_full-put_blocks_full-requires t c).In-loop-r) in
    let here : r < region_count (columns c.args.view.now.store.now) =
    omega (arith, c.loop-r-test.true, c.number-r-end.ensures, (laid.op n c.requires.n_bound).regions.range.fits) in
    let room =
    subst (λ (xs : List Step). walk.Room xs (spot c.loop-r.numbers c.loop-r.key c.loop-r.at)) (region_list store c.args.view.now.readable.sound.ruled r)
    (came_room walk (each (in_region store)) _ c.loop-r.invariant r _ (regions_of store n) turn
    (regions_room walk store n (wrote_first store (options_in c.args.view.now) (c.put_names-at.ensures (options_in c.args.view.now))) (regions_of store n) refl c.requires.definitions_fit)) in
    let around : around_list store (InRegion r) ≡ n = around_region store n r (comes_mem _ _ _ _ turn) in
    let falls : 3 * below store (around_list store (InRegion r)) + 1 < 3 * below store n + 2 = omega arith in
    (subst (λ (j : ℕ). 3 * below store (around_list store (InRegion r)) + 1 < j) c.decreases falls, (here, room))

pub put_op_full-loop-r-preserved : goal.put_op_full-loop-r-preserved
put_op_full-loop-r-preserved t c =
    let store : Store = store_read c.args.view.now in
    let walk : StepRelation Spot = key_walk store (options_in c.args.view.now) in
    let options = options_in c.args.view.now in
    let r : ℕ = c.loop-r.r in
    let one = wrote_as store options (sym (region_list store c.args.view.now.readable.sound.ruled r))
    (wrote_rest store options c.min-rest.ensures c.put_blocks_full.ensures c.saturating_add-at.ensures) in
    wrote_as store options (ap (flat_map (in_region store)) (sym (number_came _ _ c.loop-r.auto.r)))
    (came_again walk (each (in_region store)) _ c.loop-r.invariant r one)

pub put_op_full-returns : goal.put_op_full-returns
put_op_full-returns t c =
    let store : Store = store_read c.args.view.now in
    let walk : StepRelation Spot = key_walk store (options_in c.args.view.now) in
    let n : ℕ = c.args.n in
    let laid : Laid (columns c.args.view.now.store.now) = laid_facts _ c.args.view.now.readable.sound.laid in
    let rises = (laid.op n c.requires.n_bound).regions.range.rises in
    let done : c.loop-r.r ≡ c.number-r-end.result =
    omega (arith, c.loop-r-test.false, c.loop-r.auto, c.number-r.ensures, c.number-r-end.ensures, rises) in
    let all = ap₂ range c.number-r.ensures (done ∙ c.number-r-end.ensures) ∙ sym (regions_range _ laid n c.requires.n_bound) in
    let options = options_in c.args.view.now in
    wrote_all store options (omega arith)
    (full_done walk store n (wrote_first store options (c.put_names-at.ensures options)) (regions_of store n) refl
    (came_over walk (each (in_region store)) _ c.loop-r.invariant (regions_of store n) all))

-- ---- the operations of a block

pub put_ops_full-loop-n-init : goal.put_ops_full-loop-n-init
put_ops_full-loop-n-init t c =
    let store : Store = store_read c.args.view.now in
    let walk : StepRelation Spot = key_walk store (options_in c.args.view.now) in
    (_, _, none_came walk (each (full_steps store)))

pub put_ops_full-put_op_full-requires : goal.put_ops_full-put_op_full-requires
unfolding block_list ops_in_full
put_ops_full-put_op_full-requires t c =
    let store : Store = store_read c.args.view.now in
    let walk : StepRelation Spot = key_walk store (options_in c.args.view.now) in
    let list : List ℕ = ops_of store c.args.b in
    let n : ℕ = c.in-Some.n in
    let turn =
    item_comes ops_left _ _ _ _ (ap ops_left c.into_iter-n-iterator.ensures.into_iter_gives ∙ c.new-n-items.ensures) c.loop-n.yielded_by
    c.next.new.self _ _ c.in-Some.is c.next.ensures.steps in
    let child : Memᴰ n list = comes_mem _ _ _ _ turn in
    let room = came_room walk (each (full_steps store)) c.loop-n.yielded c.loop-n.invariant.2 n _ list turn c.requires.definitions_fit in
    let fewer : below store n < below store (around_list store (Single c.args.b)) =
    op_falls store c.args.view.now.readable.sound.ruled (Single c.args.b) c.args.b n (Memᴰ.head refl) child in
    let falls : 3 * below store n + 2 < 3 * below store (around_list store (Single c.args.b)) = omega arith in (
      subst (λ (j : ℕ). 3 * below store n + 2 < j) c.decreases falls,
      (op_in_lem (columns c.args.view.now.store.now) c.args.b n child, room),
    )

pub put_ops_full-loop-n-preserved : goal.put_ops_full-loop-n-preserved
put_ops_full-loop-n-preserved t c =
    let store : Store = store_read c.args.view.now in
    let walk : StepRelation Spot = key_walk store (options_in c.args.view.now) in (
      _,
      _,
      came_again walk (each (full_steps store)) c.loop-n.yielded c.loop-n.invariant.2 c.in-Some.n
          (wrote_rest store (options_in c.args.view.now) c.min-rest.ensures c.put_op_full.ensures c.saturating_add-at.ensures),
    )

pub put_ops_full-returns : goal.put_ops_full-returns
unfolding ops_in_full
put_ops_full-returns t c =
    let store : Store = store_read c.args.view.now in
    let walk : StepRelation Spot = key_walk store (options_in c.args.view.now) in
    let all =
    all_came ops_left _ _ _ _ (ap ops_left c.into_iter-n-iterator.ensures.into_iter_gives ∙ c.new-n-items.ensures) c.loop-n.yielded_by
    c.next.new.self _ c.in-None.is c.next.ensures.steps in
    wrote_all store (options_in c.args.view.now) (omega arith)
    (came_over walk (each (full_steps store)) c.loop-n.yielded c.loop-n.invariant.2 (ops_of store c.args.b) all)
