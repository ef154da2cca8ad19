-- Each clause by the lemma that it is. Assumes nothing.
use Rattle.undo_log.proofs.ReadCall.{call_read}
use Rattle.undo_log.proofs.Copied.{copy_read}
use Rattle.undo_log.proofs.ReadMark.{mark_read}
use Rattle.undo_log.proofs.ReadBack.{back_read}
use Rattle.undo_log.proofs.ReadTests.{tests_read}
use Rattle.laws.proofs.theorems.journal_reads_as_marks.Goals as goal

pub returns : goal.returns
returns c =
    record {
      call_read = call_read;
      copy_read = copy_read;
      mark_read = mark_read;
      back_read = back_read;
      tests_read = tests_read;
    }
