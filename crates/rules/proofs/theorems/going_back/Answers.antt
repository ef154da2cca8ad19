-- Each clause by the lemma that it is. Assumes nothing.
use Rattle.rules.proofs.Marks.WentBack.{went_back, went_back_whole}
use Rattle.rules.proofs.theorems.going_back.Goals as goal

pub returns : goal.returns
returns c =
    record {
      went_back = went_back;
      went_back_whole = went_back_whole;
    }
