-- `left_start` meets its contract: a start is tried, or passed over where its bucket is another. Assumes nothing.
use Prim.Native.Nat.{ℕ}
use mathlib.Core.Path.{◌≡◌}
use lib.ListN.{length, get_or}
use Rattle.layout.specs.Reading.{store_in}
use Rattle.fragments.specs.View.{options_in}
use Rattle.equivalence.specs.MappingWords.{empty_words}
use Rattle.hashing.proofs.Tried.{Tried, to_go}
use Rattle.repeated_runs.proofs.Searched.{equals}
use Rattle.repeated_runs.proofs.searching.left_start.Given as goal

abbrev pub invariant-loop-next : goal.invariant-loop-next
invariant-loop-next l =
    (l.mapping ≡ empty_words)
    × (a : ℕ)
    × Tried l.sums (get_or l.sums l.right 0) (equals (store_in l.view.store.now) (options_in l.view) l.runs.block l.runs.n l.right) l.runs.n l.right a l.next

abbrev pub decreases-loop-next : goal.decreases-loop-next
decreases-loop-next l = to_go (length l.sums) l.next
