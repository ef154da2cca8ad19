-- `map_ops` meets its contract: what is left to pair, from the words as they are, is the whole from the words as they were. Assumes nothing.
use Rattle.rules.specs.Comparison.{each_pair}
use Rattle.layout.specs.Reading.{store_in}
use Rattle.fragments.specs.BlocksLeft.{blocks_left}
use Rattle.fragments.specs.View.{options_in}
use Rattle.equivalence.specs.Compares.{state_of}
use Rattle.equivalence.specs.Walked.{lefts, rights, pass2_walk, pairs_walk}
use Rattle.equivalence.proofs.Zipped.{Rest}
use Rattle.equivalence.proofs.passes.map_ops.Given as goal

abbrev pub invariant-loop-lhs : goal.invariant-loop-lhs
invariant-loop-lhs l =
    (goal.iterator-loop-lhs).can_next l.lhs-iterator
    × (goal.iterator-loop-lhs).is_finite l.lhs-iterator
    × Rest (each_pair (pairs_walk (store_in l.view.store.now) (options_in l.view)))
    (lefts (store_in l.view.store.now) l.fn.lists) (rights (store_in l.view.store.now) l.fn.lists) (blocks_left l.lhs-iterator.a) (blocks_left l.lhs-iterator.b)
    (pass2_walk (store_in l.view.store.now) (options_in l.view) l.fn.lists (state_of l.initial.mapping l.paired)) l.mapping l.count
