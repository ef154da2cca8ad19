-- Each clause by the lemma that it is. Assumes nothing.
use Rattle.rules.proofs.Copying.Laws.{copy_equal, copy_alike, copy_filed, copy_order, copy_premise, early_unequal}
use Rattle.rules.proofs.theorems.copies_are_twins.Goals as goal

pub returns : goal.returns
returns c =
    record {
      equal = copy_equal;
      alike = copy_alike;
      mapping_is_the_copiers = copy_filed;
      numbered_in_order = copy_order;
      meet_the_premise = copy_premise;
      too_early_is_unequal = early_unequal;
    }
