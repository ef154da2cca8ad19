-- Each clause by the lemma that it is. Assumes nothing.
use Rattle.rules.proofs.Grouping.Independent.{independent_is}
use Rattle.rules.proofs.Grouping.Along.{independent_along}
use Rattle.rules.proofs.theorems.independence.Goals as goal

pub returns : goal.returns
returns c =
    record {
      is_the_premise = independent_is;
      along_equality = independent_along;
    }
