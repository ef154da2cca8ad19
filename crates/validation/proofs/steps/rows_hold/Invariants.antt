-- `rows_hold` meets its contract: each turn goes back by one row, and the oldest one's place is left to test. Assumes nothing.
use Rattle.layout.specs.Columns.{columns}
use Rattle.layout.specs.Soundness.{IsSound}
use Rattle.validation.proofs.Reached.{Reached}
use Rattle.validation.proofs.steps.rows_hold.Given as goal

abbrev pub invariant-loop-i : goal.invariant-loop-i
invariant-loop-i l =
    record {
      sound : IsSound l.copy;
      reached : Reached (columns l.initial.copy) (columns l.copy) l.i l.end;
    }
