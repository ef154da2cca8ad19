-- The four calls that go round meet their contracts together: the number of operations below falls at each round, and each loop's rest,
-- from the words as they are, is the whole from the words as they were. Assumes nothing.
use Prim.Native.Nat.{◌+◌, ◌*◌}
use lib.ListN.{get_or}
use Rattle.rules.specs.Store.{op_around, ops_of, regions_of}
use Rattle.rules.specs.Comparison.{each_pair}
use Rattle.layout.specs.Reading.{store_in}
use Rattle.layout.specs.OpsLeft.{ops_left}
use Rattle.layout.proofs.Ranges.{range}
use Rattle.fragments.specs.BlocksLeft.{blocks_left}
use Rattle.fragments.specs.View.{options_in}
use Rattle.fragments.proofs.Below.{below, around_list}
use Rattle.equivalence.specs.Compares.{state_of}
use Rattle.equivalence.specs.Walked.{left_of, lefts, rights, region_walk, op_walk, ops_walk}
use Rattle.equivalence.proofs.Zipped.{Rest}
use Rattle.equivalence.proofs.regions.+comparing.Given as goal

-- pass 3: the pairs of blocks that are left
abbrev pub invariant-blocks_eq-loop-lhs : goal.invariant-blocks_eq-loop-lhs
invariant-blocks_eq-loop-lhs l =
    (goal.iterator-blocks_eq-loop-lhs).can_next l.lhs-iterator
    × (goal.iterator-blocks_eq-loop-lhs).is_finite l.lhs-iterator
    × Rest (each_pair (ops_walk (store_in l.view.store.now) (options_in l.view))) (lefts (store_in l.view.store.now) l.fn.lists) (rights (store_in l.view.store.now) l.fn.lists)
    (blocks_left l.lhs-iterator.a) (blocks_left l.lhs-iterator.b)
    (each_pair (ops_walk (store_in l.view.store.now) (options_in l.view)) (lefts (store_in l.view.store.now) l.fn.lists) (rights (store_in l.view.store.now) l.fn.lists) (state_of l.initial.mapping l.initial.count))
    l.mapping l.count

abbrev pub decreases-blocks_eq : goal.decreases-blocks_eq
decreases-blocks_eq l = 4 * below (store_in l.view.now.store.now) (around_list (store_in l.view.now.store.now) (left_of l.lists)) + 1

-- in two blocks: the pairs of operations that are left
abbrev pub invariant-check_ops_in-loop-lhs : goal.invariant-check_ops_in-loop-lhs
invariant-check_ops_in-loop-lhs l =
    (goal.iterator-check_ops_in-loop-lhs).can_next l.lhs-iterator
    × (goal.iterator-check_ops_in-loop-lhs).is_finite l.lhs-iterator
    × Rest (each_pair (op_walk (store_in l.view.store.now) (options_in l.view))) (ops_of (store_in l.view.store.now) l.fn.pair.lhs) (ops_of (store_in l.view.store.now) l.fn.pair.rhs)
    (ops_left l.lhs-iterator.a) (ops_left l.lhs-iterator.b)
    (ops_walk (store_in l.view.store.now) (options_in l.view) l.fn.pair.lhs l.fn.pair.rhs (state_of l.initial.mapping l.fn.paired))
    l.mapping l.count

abbrev pub decreases-check_ops_in : goal.decreases-check_ops_in
decreases-check_ops_in l = 4 * below (store_in l.view.now.store.now) (op_around (store_in l.view.now.store.now) l.pair.lhs)

-- the regions of two operations: the pairs that are left
abbrev pub invariant-op_eq_mapped-loop-l : goal.invariant-op_eq_mapped-loop-l
invariant-op_eq_mapped-loop-l l =
    (goal.iterator-op_eq_mapped-loop-l).can_next l.l-iterator
    × (goal.iterator-op_eq_mapped-loop-l).is_finite l.l-iterator
    × Rest (each_pair (region_walk (store_in l.view.store.now) (options_in l.view))) (regions_of (store_in l.view.store.now) l.fn.pair.lhs) (regions_of (store_in l.view.store.now) l.fn.pair.rhs)
    (range l.l-iterator.a.start l.l-iterator.a.end) (range l.l-iterator.b.start l.l-iterator.b.end)
    (op_walk (store_in l.view.store.now) (options_in l.view) l.fn.pair.lhs l.fn.pair.rhs (state_of l.initial.mapping l.fn.paired))
    l.mapping l.count

abbrev pub decreases-op_eq_mapped : goal.decreases-op_eq_mapped
decreases-op_eq_mapped l = 4 * below (store_in l.view.now.store.now) l.pair.lhs + 3

abbrev pub decreases-region_eq : goal.decreases-region_eq
decreases-region_eq l = 4 * below (store_in l.view.now.store.now) (get_or (store_in l.view.now.store.now).regions l.pair.lhs 0) + 2
