-- `row_of` meets its contract: it goes along the chain of t's bucket, and no row that it has passed is t's. Assumes nothing.
use Prim.Native.Nat.{ℕ, ◌+◌, ◌*◌, ◌≤◌}
use lib.ListN.{length}
use Rattle.fragments.specs.Index.{Entered}
use Rattle.fragments.proofs.Chains.{Looking}
use Rattle.fragments.proofs.lookup.row_of.Given as goal

abbrev pub invariant-loop-i : goal.invariant-loop-i
invariant-loop-i l =
    record {
      room : 64 + 3 * l.i ≤ length l.index;
      looking : (n : ℕ) → Entered l.index n → Looking l.index n l.t l.i;
    }

abbrev pub decreases-loop-i : goal.decreases-loop-i
decreases-loop-i l = l.i
