-- Each clause by the lemma that it is. Assumes nothing.
use Rattle.rules.proofs.Marks.WentBack.{copy_uncounted_lem, copy_never_journal_full, copy_taken_back}
use Rattle.rules.proofs.theorems.copies_and_marks.Goals as goal

pub returns : goal.returns
returns c =
    record {
      uncounted = copy_uncounted_lem;
      never_out_of_room = copy_never_journal_full;
      taken_back = copy_taken_back;
    }
