-- `map_blocks` meets its contract: what is left to pair, from the words as they are, is the whole from the words as they were. Assumes nothing.
use Rattle.rules.specs.Comparison.{pairwise, pair_blocks}
use Rattle.layout.specs.Reading.{store_in}
use Rattle.fragments.specs.BlocksLeft.{blocks_left}
use Rattle.fragments.specs.Options.{renamed_under}
use Rattle.fragments.specs.View.{options_in}
use Rattle.equivalence.specs.Compares.{state_of}
use Rattle.equivalence.specs.Walked.{lefts, rights, pair_of_lists, pass1_walk}
use Rattle.equivalence.proofs.Zipped.{Rest}
use Rattle.equivalence.proofs.passes.map_blocks.Given as goal

abbrev pub invariant-loop-lhs : goal.invariant-loop-lhs
invariant-loop-lhs l =
    (goal.iterator-loop-lhs).can_next l.ls
    × (goal.iterator-loop-lhs).is_finite l.ls
    × Rest (pairwise (pair_blocks (renamed_under (options_in l.view) (store_in l.view.store.now)) (options_in l.view).ignore) (pair_of_lists l.lists))
    (lefts (store_in l.view.store.now) l.lists) (rights (store_in l.view.store.now) l.lists) (blocks_left l.ls) (blocks_left l.rs)
    (pass1_walk (store_in l.view.store.now) (options_in l.view) l.lists (state_of l.initial.mapping l.paired)) l.mapping l.count
