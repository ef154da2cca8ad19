-- Each clause by the lemma that it is. Assumes nothing.
use Rattle.rules.proofs.Entering.{noted_is, noted_count, entered_in_order}
use Rattle.rules.proofs.theorems.entered_pairs.Goals as goal

pub returns : goal.returns
returns c =
    record {
      is_the_comparison = noted_is;
      as_many_as_counted = noted_count;
      in_order_of_the_walk = entered_in_order;
    }
