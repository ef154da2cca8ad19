-- `put_lines` meets its contract: the lines so far are written, one behind the other. Assumes nothing.
use Prim.Native.Nat.{◌-◌}
use Rattle.converting.proofs.WrittenLines.{Writing}
use lib.ListN.{length}
use Rattle.converting.proofs.writing.put_lines.Given as goal

abbrev pub invariant-loop-start : goal.invariant-loop-start
invariant-loop-start l =
    Writing l.edition l.listing l.initial.out l.out l.start

abbrev pub decreases-loop-start : goal.decreases-loop-start
decreases-loop-start l =
    length l.listing - l.start
