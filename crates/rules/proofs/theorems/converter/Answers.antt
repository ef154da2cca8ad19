-- Each clause by the lemma that it is. Assumes nothing.
use Rattle.rules.proofs.Converting.Laws.{converted_edition, same_output, there_and_back, back_and_there, convert_fits}
use Rattle.rules.proofs.theorems.converter.Goals as goal

pub returns : goal.returns
returns c =
    record {
      other_edition = converted_edition;
      same_output = same_output;
      there_and_back = there_and_back;
      back_and_there = back_and_there;
      fits = convert_fits;
    }
