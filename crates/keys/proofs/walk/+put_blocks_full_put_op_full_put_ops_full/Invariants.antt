-- The three calls that go round meet their contracts together: the number of operations below falls from round to round, and what came so far
-- is written. Assumes nothing.
use Prim.Native.Nat.{◌+◌, ◌*◌}
use Rattle.std.specs.List.{flat_map}
use Rattle.layout.proofs.Ranges.{range}
use Rattle.fragments.specs.declared.types.Blocks.TheVariants.{Single}
use Rattle.fragments.proofs.Below.{below, around_list}
use Rattle.fragments.specs.Parts.{full_steps, ops_in_full}
use Rattle.fragments.proofs.Rounds.{in_region}
use Rattle.fragments.specs.View.{store_read, options_in}
use Rattle.keys.proofs.Writing.{spot, WroteOn}
use Rattle.keys.proofs.walk.+put_blocks_full_put_op_full_put_ops_full.Given as goal

-- pass 3: the blocks, and in a block the operations
abbrev pub invariant-put_blocks_full-loop-b : goal.invariant-put_blocks_full-loop-b
invariant-put_blocks_full-loop-b l =
    (goal.iterator-put_blocks_full-loop-b).can_next l.b-iterator
    × (goal.iterator-put_blocks_full-loop-b).is_finite l.b-iterator
    × WroteOn (store_read l.view) (options_in l.view) (flat_map (ops_in_full (store_read l.view)) l.yielded) (spot l.initial.numbers l.initial.key l.initial.at) (spot l.numbers l.key l.at)

abbrev pub decreases-put_blocks_full : goal.decreases-put_blocks_full
decreases-put_blocks_full l = 3 * below (store_read l.view.now) (around_list (store_read l.view.now) l.blocks) + 1

-- an operation's regions
abbrev pub invariant-put_op_full-loop-r : goal.invariant-put_op_full-loop-r
invariant-put_op_full-loop-r l =
    WroteOn (store_read l.view) (options_in l.view) (flat_map (in_region (store_read l.view)) (range l.initial.r l.r)) (spot l.initial.numbers l.initial.key l.initial.at) (spot l.numbers l.key l.at)

abbrev pub decreases-put_op_full : goal.decreases-put_op_full
decreases-put_op_full l = 3 * below (store_read l.view.now) l.n + 2

abbrev pub invariant-put_ops_full-loop-n : goal.invariant-put_ops_full-loop-n
invariant-put_ops_full-loop-n l =
    (goal.iterator-put_ops_full-loop-n).can_next l.n-iterator
    × (goal.iterator-put_ops_full-loop-n).is_finite l.n-iterator
    × WroteOn (store_read l.view) (options_in l.view) (flat_map (full_steps (store_read l.view)) l.yielded) (spot l.initial.numbers l.initial.key l.initial.at) (spot l.numbers l.key l.at)

abbrev pub decreases-put_ops_full : goal.decreases-put_ops_full
decreases-put_ops_full l = 3 * below (store_read l.view.now) (around_list (store_read l.view.now) (Single l.b))
