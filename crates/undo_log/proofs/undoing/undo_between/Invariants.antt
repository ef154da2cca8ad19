-- `undo_between` meets its contract: each turn undoes the newest entry that is left, or stops. Assumes nothing.
use Prim.Native.Nat.{◌≤◌}
use mathlib.Core.Bool.{true}
use lib.ListN.{drop}
use Rattle.layout.specs.Columns.{columns}
use Rattle.layout.specs.Reading.{tabulate}
use Rattle.layout.specs.MarkedReading.{entry_at}
use Rattle.undo_log.specs.Undoing.{UndidAll}
use Rattle.undo_log.proofs.undoing.undo_between.Given as goal

abbrev pub invariant-loop-i : goal.invariant-loop-i
invariant-loop-i l =
    record {
      so_far : UndidAll l.initial.store l.store (drop l.i (tabulate l.end (entry_at (columns l.initial.store)))) true;
      low : l.place ≤ l.i;
    }
