-- Each clause by the lemma that it is. Assumes nothing.
use Rattle.rules.proofs.Starred.{starred_hold, mistakes_hold, inherent_cases_hold}
use Rattle.rules.proofs.theorems.cases_of_comparisons.Goals as goal

pub returns : goal.returns
returns c =
    record {
      starred = starred_hold;
      mistakes = mistakes_hold;
      inherent = inherent_cases_hold;
    }
