-- `first_run` meets its contract: what is left to try from a right start on is the whole, and one with no left start is passed over. Assumes
-- nothing.
use mathlib.Core.Path.{◌≡◌}
use Rattle.rules.specs.Runs.{repeated}
use Rattle.layout.specs.Reading.{store_in}
use Rattle.fragments.specs.Options.{renamed_under}
use Rattle.fragments.specs.View.{options_in}
use Rattle.equivalence.specs.MappingWords.{empty_words}
use Rattle.repeated_runs.proofs.Searched.{right_on}
use Rattle.repeated_runs.proofs.searching.first_run.Given as goal

abbrev pub invariant-loop-right : goal.invariant-loop-right
invariant-loop-right l =
    let s = renamed_under (options_in l.view) (store_in l.view.store.now) in
    (l.mapping ≡ empty_words)
    × (repeated s l.view.ignore l.runs.block l.runs.n ≡ right_on s l.view.ignore l.runs.block l.runs.n l.right)
