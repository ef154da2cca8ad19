-- `pair_runs` meets its contract: what is left to pair, from the words as they are, is the whole from the words as they were. Assumes nothing.
use mathlib.Core.Path.{◌≡◌}
use lib.ListN.{length}
use Rattle.std.specs.Iterator.Adapters.{zip_first, zip_second}
use Rattle.std.specs.Slice.Iter.{iter_rest}
use Rattle.rules.specs.declared.types.Sort.TheVariants.{Block as block}
use Rattle.rules.specs.Comparison.{pairwise, pair_of, pair_ops}
use Rattle.repeated_runs.specs.Walked.{left_run, right_run, pair_walk}
use Rattle.layout.specs.Reading.{store_in}
use Rattle.fragments.specs.Options.{renamed_under}
use Rattle.fragments.specs.View.{options_in}
use Rattle.equivalence.specs.Compares.{state_of}
use Rattle.equivalence.proofs.Zipped.{Rest}
use Rattle.repeated_runs.proofs.comparing.pair_runs.Given as goal

abbrev pub invariant-loop-lhs : goal.invariant-loop-lhs
invariant-loop-lhs l =
    (length (iter_rest (zip_first l.lhs-iterator)) ≡ length (iter_rest (zip_second l.lhs-iterator)))
    × Rest (pairwise (pair_ops (renamed_under (options_in l.view) (store_in l.view.store.now)) (options_in l.view).ignore) (pair_of block l.fn.two.runs.block l.fn.two.runs.block)) (left_run l.ops l.fn.two) (right_run l.ops l.fn.two) (iter_rest (zip_first l.lhs-iterator)) (iter_rest (zip_second l.lhs-iterator))
    (pair_walk (store_in l.view.store.now) (options_in l.view) l.ops l.fn.two (state_of l.initial.mapping 0)) l.mapping l.count
