-- Each clause by the lemma that it is. Assumes nothing.
use Rattle.rules.proofs.Stated.{never_refused, comparison_is, equal_answered, hashed_is, allowed_kept, entered_by}
use Rattle.rules.proofs.theorems.answers.Goals as goal

pub returns : goal.returns
returns c =
    record {
      never_refused = never_refused;
      comparison_is_the_walk = comparison_is;
      eq_exactly_when_equal = equal_answered;
      hash_is_given = hashed_is;
      mapping_stays_allowed = allowed_kept;
      enters_what_it_counts = entered_by;
    }
