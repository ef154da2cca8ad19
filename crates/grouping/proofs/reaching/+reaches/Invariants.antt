-- Nothing reaches in the children that came so far. Of a region the blocks have one level fewer left, so the measure falls: 3 for a level, and a
-- rank below 3 for region, operation and block. Assumes nothing.
use Prim.Native.Nat.{◌+◌, ◌-◌, ◌*◌}
use mathlib.Core.Bool.{false}
use mathlib.Core.Path.{◌≡◌}
use Rattle.std.specs.List.{list_any}
use Rattle.layout.specs.Reading.{store_in}
use Rattle.layout.proofs.Ranges.{range}
use Rattle.grouping.specs.Reaching.{region_reaches, block_reaches, op_reaches}
use Rattle.grouping.proofs.reaching.+reaches.Given as goal

abbrev pub decreases-block_reaches : goal.decreases-block_reaches
decreases-block_reaches l = 3 * l.left + 2

abbrev pub decreases-op_reaches : goal.decreases-op_reaches
decreases-op_reaches l = 3 * l.left + 1

abbrev pub decreases-region_reaches : goal.decreases-region_reaches
decreases-region_reaches l = 3 * l.left

abbrev pub invariant-block_reaches-loop-m : goal.invariant-block_reaches-loop-m
invariant-block_reaches-loop-m l =
    (goal.iterator-block_reaches-loop-m).can_next l.m-iterator
    × (goal.iterator-block_reaches-loop-m).is_finite l.m-iterator
    × (list_any (op_reaches (store_in l.other.store.now) l.other.sort l.other.n l.left) l.yielded ≡ false)

abbrev pub invariant-op_reaches-loop-r : goal.invariant-op_reaches-loop-r
invariant-op_reaches-loop-r l = list_any (region_reaches (store_in l.other.store.now) l.other.sort l.other.n l.left) (range l.initial.r l.r) ≡ false

abbrev pub invariant-region_reaches-loop-b : goal.invariant-region_reaches-loop-b
invariant-region_reaches-loop-b l =
    (goal.iterator-region_reaches-loop-b).can_next l.b-iterator
    × (goal.iterator-region_reaches-loop-b).is_finite l.b-iterator
    × (list_any (block_reaches (store_in l.other.store.now) l.other.sort l.other.n (l.left - 1)) l.yielded ≡ false)
