-- An operation is tried, or passed over where its bucket is another. Assumes nothing.
use Prim.Native.Nat.{ℕ}
use mathlib.Core.Path.{◌≡◌}
use lib.ListN.{length, get_or}
use Rattle.layout.specs.Reading.{store_in}
use Rattle.fragments.specs.View.{options_in}
use Rattle.equivalence.specs.MappingWords.{empty_words}
use Rattle.hashing.proofs.Tried.{Tried, to_go}
use Rattle.grouping.proofs.Searched.{stands}
use Rattle.grouping.proofs.finding.twin_of.Given as goal

abbrev pub invariant-loop-next : goal.invariant-loop-next
invariant-loop-next l =
    (l.mapping ≡ empty_words)
    × (a : ℕ)
    × Tried l.hashes (get_or l.hashes l.n 0) (stands (store_in l.view.store.now) (options_in l.view) l.n) 1 l.n a l.next

abbrev pub decreases-loop-next : goal.decreases-loop-next
decreases-loop-next l = to_go (length l.hashes) l.next
