-- The words of the operations that came so far are in their places, and the mapping is empty between two of them. Assumes nothing.
use Prim.Native.Nat.{ℕ, ◌<◌}
use mathlib.Core.Path.{◌≡◌}
use lib.ListN.{get_or}
use Rattle.rules.specs.Grouping.{twin_of, twin_word}
use Rattle.layout.specs.Reading.{store_in}
use Rattle.fragments.specs.Options.{renamed_under}
use Rattle.fragments.specs.View.{options_in}
use Rattle.equivalence.specs.MappingWords.{empty_words}
use Rattle.grouping.proofs.finding.write_twins.Given as goal

abbrev pub invariant-loop-n : goal.invariant-loop-n
invariant-loop-n l =
    (l.mapping ≡ empty_words)
    × ((k : ℕ) → k < l.n → get_or l.twins k 0 ≡ twin_word (twin_of (renamed_under (options_in l.view) (store_in l.view.store.now)) (options_in l.view).ignore k))
