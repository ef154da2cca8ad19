-- `end_children` meets its contract: after each turn one child more is seen. Assumes nothing.
use Rattle.layout.specs.Columns.{columns}
use Rattle.undo_log.proofs.Written.{Ending}
use Rattle.undo_log.proofs.cutting.end_children.Given as goal

abbrev pub invariant-loop-i : goal.invariant-loop-i
invariant-loop-i l =
    Ending (columns l.initial.store) l.family.owners l.family.ends l.family.offset l.count (columns l.store) l.i
