-- A block, a region and an operation are included child by child: once all came, all that is inside is included. Assumes nothing.
use Prim.Native.Nat.{◌+◌, ◌-◌, ◌*◌, ◌<◌}
use native.Mathlib.Omega.{arith}
use mathlib.Core.List.{[], ◌∷◌, ◌++◌}
use mathlib.Core.Path.{◌≡◌, sym, ap, ap₂, ◌∙◌}
use Rattle.layout.specs.Columns.{columns}
use Rattle.layout.specs.Reading.{region_count, store_in}
use Rattle.layout.specs.OpsLeft.{ops_left}
use Rattle.layout.proofs.Laid.{Laid, laid_facts}
use Rattle.layout.proofs.Ranges.{range, range_empty, regions_range}
use Rattle.fragments.specs.BlocksLeft.{blocks_left}
use Rattle.fragments.specs.Order.{block_list, BlocksExist}
use Rattle.fragments.specs.declared.types.Blocks.TheVariants.{InRegion}
use Rattle.fragments.proofs.Yielded.{item_comes, all_came, comes_mem, number_came}
use Rattle.fragments.proofs.Few.{op_low}
use Rattle.fragments.proofs.Ordered.{op_in_lem, block_in_lem}
use Rattle.listing.specs.Tally.{region_ops, block_ops, op_ops}
use Rattle.listing.proofs.Turns.{included_in, one_included, included_same, none_included, block_includes, op_includes, region_includes, no_includes}
use Rattle.listing.proofs.inside.Walk.+include.Goals as goal

-- ---- a block

pub include_block-loop-n-init : goal.include_block-loop-n-init
include_block-loop-n-init t c = (_, _, none_included c.args.self.now.found (op_ops c.args.left (store_in c.args.self.now.store.now)) _)

pub include_block-include_op-requires : goal.include_block-include_op-requires
include_block-include_op-requires t c =
    let begun = ap ops_left c.into_iter-n-iterator.ensures.into_iter_gives ∙ c.new-n-items.ensures in
    let turn = item_comes ops_left _ _ _ _ begun c.loop-n.yielded_by c.next.new.self _ _ c.in-Some.is c.next.ensures.steps in
    let m : 3 * c.args.left + 2 ≡ t = c.decreases in
    (omega arith, op_in_lem _ _ _ (comes_mem _ _ _ _ turn))

pub include_block-loop-n-preserved : goal.include_block-loop-n-preserved
include_block-loop-n-preserved t c =
    (_, _, one_included c.args.self.now.found (op_ops c.args.left (store_in c.args.self.now.store.now)) c.loop-n.yielded c.in-Some.n _ _ _ c.loop-n.invariant.2 c.include_op.ensures)

pub include_block-returns : goal.include_block-returns
include_block-returns t c =
    let begun = ap ops_left c.into_iter-n-iterator.ensures.into_iter_gives ∙ c.new-n-items.ensures in
    let all = all_came ops_left _ _ _ _ begun c.loop-n.yielded_by c.next.new.self _ c.in-None.is c.next.ensures.steps in
    included_same c.args.self.now.found (op_ops c.args.left (store_in c.args.self.now.store.now)) c.loop-n.yielded _ _ _ c.loop-n.invariant.2 all
    ∙ block_includes (store_in c.args.self.now.store.now) c.args.left c.args.self.now.found c.args.tally.now c.args.b

-- ---- an operation

pub include_op-include-requires : goal.include_op-include-requires
include_op-include-requires t c = omega (arith, op_low _ c.args.self.now.sound _ c.requires)

pub include_op-number-first-requires-clause-n_bound : goal.include_op-number-first-requires-clause-n_bound
include_op-number-first-requires-clause-n_bound t c = op_low _ c.args.self.now.sound _ c.requires

pub include_op-number-end-requires-clause-n_bound : goal.include_op-number-end-requires-clause-n_bound
include_op-number-end-requires-clause-n_bound t c = op_low _ c.args.self.now.sound _ c.requires

pub include_op-loop-r-init : goal.include_op-loop-r-init
include_op-loop-r-init t c =
    let inside = region_ops c.args.left (store_in c.args.self.now.store.now) in
    included_same c.args.self.now.found inside [] _ _ _ (none_included c.args.self.now.found inside _) (sym (range_empty c.number-first.result c.number-first.result (omega arith)))

pub include_op-include_region-requires : goal.include_op-include_region-requires
include_op-include_region-requires t c =
    let laid : Laid (columns c.args.self.now.store.now) = laid_facts _ c.args.self.now.sound.laid in
    let here : c.loop-r.r < region_count (columns c.args.self.now.store.now) =
    omega (arith, c.loop-r-test.true, c.number-end.ensures, (laid.op c.args.n c.requires).regions.range.fits) in
    let m : 3 * c.args.left + 1 ≡ t = c.decreases in
    (omega arith, here)

pub include_op-loop-r-preserved : goal.include_op-loop-r-preserved
include_op-loop-r-preserved t c =
    let inside = region_ops c.args.left (store_in c.args.self.now.store.now) in
    let came = range c.number-first.result c.loop-r.r in
    included_same c.args.self.now.found inside (came ++ c.loop-r.r ∷ []) _ _ _
    (one_included c.args.self.now.found inside came c.loop-r.r _ _ _ c.loop-r.invariant c.include_region.ensures)
    (sym (number_came _ _ c.loop-r.auto.r))

pub include_op-returns : goal.include_op-returns
include_op-returns t c =
    let C = columns c.args.self.now.store.now in
    let laid : Laid C = laid_facts C c.args.self.now.sound.laid in
    let rises = (laid.op c.args.n c.requires).regions.range.rises in
    let done : c.loop-r.r ≡ c.number-end.result = omega (arith, c.loop-r-test.false, c.loop-r.auto, c.number-first.ensures, c.number-end.ensures, rises) in
    let all = ap₂ range c.number-first.ensures (done ∙ c.number-end.ensures) ∙ sym (regions_range C laid c.args.n c.requires) in
    c.loop-r.invariant
    ∙ ap₂ (included_in c.args.self.now.found _) all c.include.ensures
    ∙ op_includes (store_in c.args.self.now.store.now) c.args.left c.args.self.now.found c.args.tally.now c.args.n

-- ---- a region

pub include_region-returns-then-left-eq0 : goal.include_region-returns-then-left-eq0
include_region-returns-then-left-eq0 t c =
    no_includes (store_in c.args.self.now.store.now) c.args.left c.args.self.now.found c.args.tally.now c.args.r c.if-left-eq0.true

pub include_region-new-b-items-requires-clause-blocks_exist : goal.include_region-new-b-items-requires-clause-blocks_exist
unfolding BlocksExist
include_region-new-b-items-requires-clause-blocks_exist t c = c.requires

pub include_region-loop-b-init : goal.include_region-loop-b-init
include_region-loop-b-init t c = (_, _, none_included c.args.self.now.found (block_ops (c.args.left - 1) (store_in c.args.self.now.store.now)) _)

pub include_region-include_block-requires : goal.include_region-include_block-requires
unfolding BlocksExist
include_region-include_block-requires t c =
    let begun = ap blocks_left c.into_iter-b-iterator.ensures.into_iter_gives ∙ c.new-b-items.ensures in
    let turn = item_comes blocks_left _ _ _ _ begun c.loop-b.yielded_by c.next.new.self _ _ c.in-Some.is c.next.ensures.steps in
    let here = block_in_lem (columns c.args.self.now.store.now) (InRegion c.args.r) _ c.requires (comes_mem _ _ _ _ turn) in
    let m : 3 * c.args.left ≡ t = c.decreases in
    (omega (arith, c.if-left-eq0.false), here)

pub include_region-loop-b-preserved : goal.include_region-loop-b-preserved
include_region-loop-b-preserved t c =
    (_, _, one_included c.args.self.now.found (block_ops (c.args.left - 1) (store_in c.args.self.now.store.now)) c.loop-b.yielded c.in-Some.b _ _ _ c.loop-b.invariant.2 c.include_block.ensures)

pub include_region-returns : goal.include_region-returns
unfolding block_list
include_region-returns t c =
    let begun = ap blocks_left c.into_iter-b-iterator.ensures.into_iter_gives ∙ c.new-b-items.ensures in
    let all = all_came blocks_left _ _ _ _ begun c.loop-b.yielded_by c.next.new.self _ c.in-None.is c.next.ensures.steps in
    included_same c.args.self.now.found (block_ops (c.args.left - 1) (store_in c.args.self.now.store.now)) c.loop-b.yielded _ _ _ c.loop-b.invariant.2 all
    ∙ region_includes (store_in c.args.self.now.store.now) c.args.left c.args.self.now.found c.args.tally.now c.args.r c.if-left-eq0.false
