-- What came so far of each list is listed; the number of operations below falls from round to round. Assumes nothing.
use Rattle.std.proofs.Common.{◌+◌, ◌*◌}
use Rattle.std.specs.List.{flat_map}
use Rattle.layout.specs.Reading.{store_in}
use Rattle.layout.proofs.Ranges.{range}
use Rattle.fragments.specs.declared.types.Blocks.TheVariants.{Single}
use Rattle.fragments.proofs.Below.{below, around_list}
use Rattle.fragments.specs.Parts.{full_steps, ops_in_full}
use Rattle.fragments.proofs.Rounds.{in_region}
use Rattle.copying.specs.Steps.{Listed}
use Rattle.copying.proofs.steps.+list_full.Given as goal

-- pass 3: the blocks, and in a block the operations
abbrev pub invariant-list_blocks_full-loop-b : goal.invariant-list_blocks_full-loop-b
invariant-list_blocks_full-loop-b l =
    (goal.iterator-list_blocks_full-loop-b).can_next l.b-iterator
    × (goal.iterator-list_blocks_full-loop-b).is_finite l.b-iterator
    × Listed (flat_map (ops_in_full (store_in l.store)) l.yielded) l.initial.walk l.walk

abbrev pub decreases-list_blocks_full : goal.decreases-list_blocks_full
decreases-list_blocks_full l = 3 * below (store_in l.store.now) (around_list (store_in l.store.now) l.blocks) + 1

-- an operation's regions
abbrev pub invariant-list_op_full-loop-r : goal.invariant-list_op_full-loop-r
invariant-list_op_full-loop-r l = Listed (flat_map (in_region (store_in l.store)) (range l.initial.r l.r)) l.initial.walk l.walk

abbrev pub decreases-list_op_full : goal.decreases-list_op_full
decreases-list_op_full l = 3 * below (store_in l.store.now) l.n + 2

abbrev pub invariant-list_ops_full-loop-n : goal.invariant-list_ops_full-loop-n
invariant-list_ops_full-loop-n l =
    (goal.iterator-list_ops_full-loop-n).can_next l.n-iterator
    × (goal.iterator-list_ops_full-loop-n).is_finite l.n-iterator
    × Listed (flat_map (full_steps (store_in l.store)) l.yielded) l.initial.walk l.walk

abbrev pub decreases-list_ops_full : goal.decreases-list_ops_full
decreases-list_ops_full l = 3 * below (store_in l.store.now) (around_list (store_in l.store.now) (Single l.b))
