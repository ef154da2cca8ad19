-- `run` meets its contract: what is printed so far, followed by what the rules print from here on, is all. Assumes nothing.
use Prim.Native.Nat.{◌-◌}
use Rattle.listing.proofs.Runs.{Running}
use lib.ListN.{length}
use Rattle.listing.proofs.running.run.Given as goal

abbrev pub invariant-loop-start : goal.invariant-loop-start
invariant-loop-start l =
    Running l.reading l.listing l.from l.initial.out l.store l.mapping l.tally l.out l.number l.start

abbrev pub decreases-loop-start : goal.decreases-loop-start
decreases-loop-start l =
    length l.listing - l.start
