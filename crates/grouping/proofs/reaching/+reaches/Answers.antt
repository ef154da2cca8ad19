-- A block, a region and an operation are gone through child by child, up to the first in which something reaches; once all came, none did. Assumes
-- nothing.
use Prim.Native.Nat.{◌+◌, ◌-◌, ◌*◌, ◌<◌}
use native.Mathlib.Omega.{arith}
use mathlib.Core.Path.{refl, ◌≡◌, sym, ap, ap₂, ◌∙◌}
use Rattle.std.specs.List.{list_any}
use Rattle.rules.proofs.Basics.Filtered.{any_at}
use Rattle.layout.specs.Columns.{columns}
use Rattle.layout.specs.Reading.{region_count, store_in}
use Rattle.layout.specs.OpsLeft.{ops_left}
use Rattle.layout.proofs.Laid.{Laid, laid_facts}
use Rattle.layout.proofs.Ranges.{range, range_empty, regions_range}
use Rattle.fragments.specs.BlocksLeft.{blocks_left}
use Rattle.fragments.specs.Order.{block_list, BlocksExist}
use Rattle.fragments.specs.declared.types.Blocks.TheVariants.{InRegion}
use Rattle.fragments.proofs.Yielded.{item_comes, all_came, comes_mem, number_came, number_comes}
use Rattle.fragments.proofs.Few.{op_low}
use Rattle.fragments.proofs.Ordered.{op_in_lem, block_in_lem}
use Rattle.grouping.specs.Reaching.{region_reaches, block_reaches, op_reaches}
use Rattle.grouping.proofs.ByParts.{block_parts, region_parts, region_none, op_itself, op_names, op_regions, first_part, second_part, none_more}
use Rattle.grouping.proofs.reaching.+reaches.Goals as goal
use Rattle.grouping.proofs.reaching.+reaches.Goals.{op_reaches-then-op_inside-via-then-op_inside, op_reaches-then-op_inside-via-else-op_inside+then-names_inside}

-- ---- a block

pub block_reaches-returns-then-block_inside : goal.block_reaches-returns-then-block_inside
block_reaches-returns-then-block_inside t c = first_part _ (block_parts _ _ _ _ _) (sym c.block_inside.ensures ∙ c.if-block_inside.true)

pub block_reaches-loop-m-init : goal.block_reaches-loop-m-init
block_reaches-loop-m-init t c = (_, _, refl)

pub block_reaches-op_reaches-requires : goal.block_reaches-op_reaches-requires
block_reaches-op_reaches-requires t c =
    let begun = ap ops_left c.into_iter-m-iterator.ensures.into_iter_gives ∙ c.new-m-items.ensures in
    let turn = item_comes ops_left _ _ _ _ begun c.loop-m.yielded_by c.next.new.self _ _ c.in-Some.is c.next.ensures.steps in
    let m : 3 * c.args.left + 2 ≡ t = c.decreases in
    (omega arith, op_in_lem _ _ _ (comes_mem _ _ _ _ turn))

pub block_reaches-returns-then-op_reaches : goal.block_reaches-returns-then-op_reaches
block_reaches-returns-then-op_reaches t c =
    let begun = ap ops_left c.into_iter-m-iterator.ensures.into_iter_gives ∙ c.new-m-items.ensures in
    let turn = item_comes ops_left _ _ _ _ begun c.loop-m.yielded_by c.next.new.self _ _ c.in-Some.is c.next.ensures.steps in
    second_part (block_parts _ _ _ _ _) (sym c.block_inside.ensures ∙ c.if-block_inside.false)
    (any_at (op_reaches (store_in c.args.other.now.store.now) c.args.other.now.sort c.args.other.now.n c.args.left) (comes_mem _ _ _ _ turn) (sym c.op_reaches.ensures ∙ c.if-op_reaches.true))

pub block_reaches-loop-m-preserved : goal.block_reaches-loop-m-preserved
block_reaches-loop-m-preserved t c = (_, _, none_more (op_reaches (store_in c.args.other.now.store.now) c.args.other.now.sort c.args.other.now.n c.args.left) c.loop-m.yielded c.in-Some.m c.loop-m.invariant.2 (sym c.op_reaches.ensures ∙ c.if-op_reaches.false))

pub block_reaches-returns : goal.block_reaches-returns
block_reaches-returns t c =
    let begun = ap ops_left c.into_iter-m-iterator.ensures.into_iter_gives ∙ c.new-m-items.ensures in
    let all = all_came ops_left _ _ _ _ begun c.loop-m.yielded_by c.next.new.self _ c.in-None.is c.next.ensures.steps in
    second_part (block_parts _ _ _ _ _) (sym c.block_inside.ensures ∙ c.if-block_inside.false)
    (ap (list_any (op_reaches (store_in c.args.other.now.store.now) c.args.other.now.sort c.args.other.now.n c.args.left)) (sym all) ∙ c.loop-m.invariant.2)

-- ---- an operation

pub op_reaches-returns-then-op_inside : goal.op_reaches-returns-then-op_inside
op_reaches-returns-then-op_inside t c =
    elim c.then-op_inside.branch [
      | op_reaches-then-op_inside-via-then-op_inside w ↦ op_itself _ _ _ _ _ (sym c.op_inside.ensures ∙ w.if-op_inside.true)
      | op_reaches-then-op_inside-via-else-op_inside+then-names_inside w ↦ op_names _ _ _ _ _ (sym w.names_inside.ensures ∙ w.if-names_inside.true)
    ]

pub op_reaches-number-first-requires-clause-n_bound : goal.op_reaches-number-first-requires-clause-n_bound
op_reaches-number-first-requires-clause-n_bound t c = op_low _ c.args.other.now.sound _ c.requires

pub op_reaches-number-end-requires-clause-n_bound : goal.op_reaches-number-end-requires-clause-n_bound
op_reaches-number-end-requires-clause-n_bound t c = op_low _ c.args.other.now.sound _ c.requires

pub op_reaches-loop-r-init : goal.op_reaches-loop-r-init
op_reaches-loop-r-init t c =
    ap (list_any (region_reaches (store_in c.args.other.now.store.now) c.args.other.now.sort c.args.other.now.n c.args.left)) (range_empty c.number-first.result c.number-first.result (omega arith))

pub op_reaches-region_reaches-requires : goal.op_reaches-region_reaches-requires
op_reaches-region_reaches-requires t c =
    let laid : Laid (columns c.args.other.now.store.now) = laid_facts _ c.args.other.now.sound.laid in
    let here : c.loop-r.r < region_count (columns c.args.other.now.store.now) =
    omega (arith, c.loop-r-test.true, c.number-end.ensures, (laid.op c.args.m c.requires).regions.range.fits) in
    let m : 3 * c.args.left + 1 ≡ t = c.decreases in
    (omega arith, here)

pub op_reaches-returns-then-region_reaches : goal.op_reaches-returns-then-region_reaches
op_reaches-returns-then-region_reaches t c =
    let C = columns c.args.other.now.store.now in
    let laid : Laid C = laid_facts C c.args.other.now.sound.laid in
    let all = ap₂ range c.number-first.ensures c.number-end.ensures ∙ sym (regions_range C laid c.args.m c.requires) in
    op_regions _ _ _ _ _ (sym c.op_inside.ensures ∙ c.if-op_inside.false) (sym c.names_inside.ensures ∙ c.if-names_inside.false)
    (ap (list_any (region_reaches (store_in c.args.other.now.store.now) c.args.other.now.sort c.args.other.now.n c.args.left)) (sym all)
    ∙ any_at (region_reaches (store_in c.args.other.now.store.now) c.args.other.now.sort c.args.other.now.n c.args.left) (comes_mem _ _ _ _ (number_comes _ _ _ c.loop-r.auto.r c.loop-r-test.true)) (sym c.region_reaches.ensures ∙ c.if-region_reaches.true))

pub op_reaches-loop-r-preserved : goal.op_reaches-loop-r-preserved
op_reaches-loop-r-preserved t c =
    let p = region_reaches (store_in c.args.other.now.store.now) c.args.other.now.sort c.args.other.now.n c.args.left in
    ap (list_any p) (number_came _ _ c.loop-r.auto.r) ∙ none_more p _ _ c.loop-r.invariant (sym c.region_reaches.ensures ∙ c.if-region_reaches.false)

pub op_reaches-returns : goal.op_reaches-returns
op_reaches-returns t c =
    let C = columns c.args.other.now.store.now in
    let laid : Laid C = laid_facts C c.args.other.now.sound.laid in
    let rises = (laid.op c.args.m c.requires).regions.range.rises in
    let done : c.loop-r.r ≡ c.number-end.result = omega (arith, c.loop-r-test.false, c.loop-r.auto, c.number-first.ensures, c.number-end.ensures, rises) in
    let all = ap₂ range c.number-first.ensures (done ∙ c.number-end.ensures) ∙ sym (regions_range C laid c.args.m c.requires) in
    op_regions _ _ _ _ _ (sym c.op_inside.ensures ∙ c.if-op_inside.false) (sym c.names_inside.ensures ∙ c.if-names_inside.false)
    (ap (list_any _) (sym all) ∙ c.loop-r.invariant)

-- ---- a region

pub region_reaches-returns-then-left-eq0 : goal.region_reaches-returns-then-left-eq0
region_reaches-returns-then-left-eq0 t c = sym (region_none _ _ _ _ _ c.if-left-eq0.true)

pub region_reaches-new-b-items-requires-clause-blocks_exist : goal.region_reaches-new-b-items-requires-clause-blocks_exist
unfolding BlocksExist
region_reaches-new-b-items-requires-clause-blocks_exist t c = c.requires

pub region_reaches-loop-b-init : goal.region_reaches-loop-b-init
region_reaches-loop-b-init t c = (_, _, refl)

pub region_reaches-block_reaches-requires : goal.region_reaches-block_reaches-requires
unfolding BlocksExist
region_reaches-block_reaches-requires t c =
    let begun = ap blocks_left c.into_iter-b-iterator.ensures.into_iter_gives ∙ c.new-b-items.ensures in
    let turn = item_comes blocks_left _ _ _ _ begun c.loop-b.yielded_by c.next.new.self _ _ c.in-Some.is c.next.ensures.steps in
    let here = block_in_lem (columns c.args.other.now.store.now) (InRegion c.args.r) _ c.requires (comes_mem _ _ _ _ turn) in
    let m : 3 * c.args.left ≡ t = c.decreases in
    (omega (arith, c.if-left-eq0.false), here)

pub region_reaches-returns-then-block_reaches : goal.region_reaches-returns-then-block_reaches
unfolding block_list
region_reaches-returns-then-block_reaches t c =
    let begun = ap blocks_left c.into_iter-b-iterator.ensures.into_iter_gives ∙ c.new-b-items.ensures in
    let turn = item_comes blocks_left _ _ _ _ begun c.loop-b.yielded_by c.next.new.self _ _ c.in-Some.is c.next.ensures.steps in
    sym
    (region_parts _ _ _ _ _ c.if-left-eq0.false
    ∙ any_at (block_reaches (store_in c.args.other.now.store.now) c.args.other.now.sort c.args.other.now.n (c.args.left - 1)) (comes_mem _ _ _ _ turn) (sym c.block_reaches.ensures ∙ c.if-block_reaches.true))

pub region_reaches-loop-b-preserved : goal.region_reaches-loop-b-preserved
region_reaches-loop-b-preserved t c = (_, _, none_more (block_reaches (store_in c.args.other.now.store.now) c.args.other.now.sort c.args.other.now.n (c.args.left - 1)) c.loop-b.yielded c.in-Some.b c.loop-b.invariant.2 (sym c.block_reaches.ensures ∙ c.if-block_reaches.false))

pub region_reaches-returns : goal.region_reaches-returns
unfolding block_list
region_reaches-returns t c =
    let begun = ap blocks_left c.into_iter-b-iterator.ensures.into_iter_gives ∙ c.new-b-items.ensures in
    let all = all_came blocks_left _ _ _ _ begun c.loop-b.yielded_by c.next.new.self _ c.in-None.is c.next.ensures.steps in
    sym
    (region_parts _ _ _ _ _ c.if-left-eq0.false
    ∙ ap (list_any _) (sym all)
    ∙ c.loop-b.invariant.2)
