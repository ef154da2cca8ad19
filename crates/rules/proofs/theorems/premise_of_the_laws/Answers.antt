-- Each clause by the lemma that it is. Assumes nothing.
use Rattle.rules.proofs.Needed.{premise_needed, premise_needed_thrice}
use Rattle.rules.proofs.theorems.premise_of_the_laws.Goals as goal

pub returns : goal.returns
returns c =
    record {
      needed_for_symmetry_and_hash = premise_needed;
      needed_for_transitivity = premise_needed_thrice;
    }
