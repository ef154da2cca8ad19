-- `map_ops_in` meets its contract: what is left to pair, from the words as they are, is the whole from the words as they were. Assumes nothing.
use Rattle.rules.specs.Store.{ops_of}
use Rattle.rules.specs.declared.types.Sort.TheVariants.{Block as block}
use Rattle.rules.specs.Comparison.{pair_of, pairwise, pair_ops}
use Rattle.layout.specs.Reading.{store_in}
use Rattle.layout.specs.OpsLeft.{ops_left}
use Rattle.fragments.specs.Options.{renamed_under}
use Rattle.fragments.specs.View.{options_in}
use Rattle.equivalence.specs.Compares.{state_of}
use Rattle.equivalence.specs.Walked.{pairs_walk}
use Rattle.equivalence.proofs.Zipped.{Rest}
use Rattle.equivalence.proofs.passes.map_ops_in.Given as goal

abbrev pub invariant-loop-lhs : goal.invariant-loop-lhs
invariant-loop-lhs l =
    (goal.iterator-loop-lhs).can_next l.ls
    × (goal.iterator-loop-lhs).is_finite l.ls
    × Rest
    (pairwise (pair_ops (renamed_under (options_in l.view) (store_in l.view.store.now)) (options_in l.view).ignore) (pair_of block l.pair.lhs l.pair.rhs))
    (ops_of (store_in l.view.store.now) l.pair.lhs) (ops_of (store_in l.view.store.now) l.pair.rhs) (ops_left l.ls) (ops_left l.rs)
    (pairs_walk (store_in l.view.store.now) (options_in l.view) l.pair.lhs l.pair.rhs (state_of l.initial.mapping l.paired)) l.mapping l.count
