-- `lines_tested` meets its contract: none of the lines so far is refused, and their sizes are known. Assumes nothing.
use Prim.Native.Nat.{◌-◌}
use Rattle.converting.proofs.LineByLine.{Testing}
use lib.ListN.{length}
use Rattle.converting.proofs.testing.lines_tested.Given as goal

abbrev pub invariant-loop-start : goal.invariant-loop-start
invariant-loop-start l =
    Testing l.edition l.listing l.sizes l.number l.start

abbrev pub decreases-loop-start : goal.decreases-loop-start
decreases-loop-start l =
    length l.listing - l.start
