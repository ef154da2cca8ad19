-- Each clause by the lemma that it is. Assumes nothing.
use Rattle.laws.proofs.Filed.{filing_of_code, words_fit}
use Rattle.laws.proofs.theorems.filing_by_keys.Goals as goal

pub returns : goal.returns
returns c =
    record {
      same_key_exactly_when_equal = filing_of_code;
      words_fit = words_fit;
    }
