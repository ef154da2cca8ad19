-- The three calls that go round meet their contracts together: the remaining nesting falls from round to round, and what came so far is counted.
-- Assumes nothing.
use Prim.Native.Nat.{ℕ, suc, ◌+◌, ◌-◌, ◌*◌}
use mathlib.Core.List.{List}
use Rattle.std.specs.List.{flat_map}
use Rattle.rules.specs.Store.{Store, blocks_of}
use Rattle.rules.specs.Fragments.{ops_in_blocks}
use Rattle.layout.specs.Reading.{store_in}
use Rattle.layout.proofs.Ranges.{range}
use Rattle.fragments.specs.Sizes.{ops_size, ops_nesting, SizeIs}
use Rattle.fragments.proofs.Sizing.{OpsSize}
use Rattle.fragments.proofs.sizes.+size_in_block_size_in_region_size_of_op.Given as goal

-- an operation's regions
abbrev pub ops_in_region : Store → ℕ → List ℕ
ops_in_region s r = ops_in_blocks s (blocks_of s r)

abbrev pub invariant-size_of_op-loop-r : goal.invariant-size_of_op-loop-r
invariant-size_of_op-loop-r l =
    let inside : List ℕ = flat_map (ops_in_region (store_in l.store)) (range l.initial.r l.r) in
    SizeIs (suc (ops_size (l.left - 1) (store_in l.store) inside)) (ops_nesting (l.left - 1) (store_in l.store) inside) l.size

abbrev pub decreases-size_of_op : goal.decreases-size_of_op
decreases-size_of_op l = 3 * l.left + 2

-- a region's blocks
abbrev pub invariant-size_in_region-loop-b : goal.invariant-size_in_region-loop-b
invariant-size_in_region-loop-b l =
    (goal.iterator-size_in_region-loop-b).can_next l.b-iterator
    × (goal.iterator-size_in_region-loop-b).is_finite l.b-iterator
    × OpsSize (l.left - 1) (store_in l.store) (ops_in_blocks (store_in l.store) l.yielded) l.size

abbrev pub decreases-size_in_region : goal.decreases-size_in_region
decreases-size_in_region l = 3 * l.left + 1

-- a block's operations
abbrev pub invariant-size_in_block-loop-n : goal.invariant-size_in_block-loop-n
invariant-size_in_block-loop-n l =
    (goal.iterator-size_in_block-loop-n).can_next l.n-iterator
    × (goal.iterator-size_in_block-loop-n).is_finite l.n-iterator
    × OpsSize (l.left - 1) (store_in l.store) l.yielded l.size

abbrev pub decreases-size_in_block : goal.decreases-size_in_block
decreases-size_in_block l = 3 * l.left
