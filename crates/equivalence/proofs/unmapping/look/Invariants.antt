-- `look` meets its contract: each word is passed by where it has no image, and is found where it has one. Assumes nothing.
use Rattle.std.proofs.Common.{◌≡◌, ◌≤◌}
use Rattle.layout.specs.Columns.{columns}
use Rattle.equivalence.specs.Unmapping.{Searched}
use Rattle.equivalence.proofs.unmapping.look.Given as goal

abbrev pub invariant-loop-i : goal.invariant-loop-i
invariant-loop-i l =
    record {
      from : l.fn.seen.start ≤ l.i-iterator.start;
      end : l.i-iterator.end ≡ l.fn.seen.end;
      rises : l.i-iterator.start ≤ l.i-iterator.end;
      searched : Searched (columns l.store) l.mapping l.i-iterator.start l.s;
    }
