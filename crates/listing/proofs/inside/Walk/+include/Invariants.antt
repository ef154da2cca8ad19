-- All that is inside the children that came so far is included. Of a region the blocks have one level fewer left, so the measure falls: 3 for a
-- level, and a rank below 3 for region, operation and block. Assumes nothing.
use Prim.Native.Nat.{◌+◌, ◌-◌, ◌*◌}
use mathlib.Core.Path.{◌≡◌}
use Rattle.layout.specs.Reading.{store_in}
use Rattle.layout.proofs.Ranges.{range}
use Rattle.listing.specs.Tally.{region_ops, block_ops, op_ops}
use Rattle.listing.proofs.Turns.{included_in}
use Rattle.listing.proofs.inside.Walk.+include.Given as goal

abbrev pub decreases-include_block : goal.decreases-include_block
decreases-include_block l = 3 * l.left + 2

abbrev pub decreases-include_op : goal.decreases-include_op
decreases-include_op l = 3 * l.left + 1

abbrev pub decreases-include_region : goal.decreases-include_region
decreases-include_region l = 3 * l.left

abbrev pub invariant-include_block-loop-n : goal.invariant-include_block-loop-n
invariant-include_block-loop-n l =
    (goal.iterator-include_block-loop-n).can_next l.n-iterator
    × (goal.iterator-include_block-loop-n).is_finite l.n-iterator
    × (l.tally ≡ included_in l.self.found (op_ops l.left (store_in l.self.store.now)) l.yielded l.initial.tally)

abbrev pub invariant-include_op-loop-r : goal.invariant-include_op-loop-r
invariant-include_op-loop-r l = l.tally ≡ included_in l.self.found (region_ops l.left (store_in l.self.store.now)) (range l.initial.r l.r) l.initial.tally

abbrev pub invariant-include_region-loop-b : goal.invariant-include_region-loop-b
invariant-include_region-loop-b l =
    (goal.iterator-include_region-loop-b).can_next l.b-iterator
    × (goal.iterator-include_region-loop-b).is_finite l.b-iterator
    × (l.tally ≡ included_in l.self.found (block_ops (l.left - 1) (store_in l.self.store.now)) l.yielded l.initial.tally)
