-- Each clause by the lemma that it is. Assumes nothing.
use Rattle.undo_log.proofs.Undone.{call_undone, call_undoable}
use Rattle.undo_log.proofs.Copied.{copy_undone}
use Rattle.undo_log.proofs.CutJournal.{cut_commutes, cut_commutes_all, cut_twice, cut_whole, undone_parts}
use Rattle.laws.proofs.theorems.undoing_and_cutting.Goals as goal

pub returns : goal.returns
returns c =
    record {
      call_undone = call_undone;
      call_undoable = call_undoable;
      copy_undone = copy_undone;
      cut_commutes = cut_commutes;
      cut_commutes_all = cut_commutes_all;
      cut_twice = cut_twice;
      cut_whole = cut_whole;
      undone_parts = undone_parts;
    }
