-- Each clause by the lemma that it is. Assumes nothing.
use Rattle.rules.proofs.Stated.{canonical_equal, equal_canonical, canonical_hash}
use Rattle.rules.proofs.theorems.canonical_forms.Goals as goal

pub returns : goal.returns
returns c =
    record {
      same_form_is_equal = canonical_equal;
      equal_has_same_form = equal_canonical;
      same_form_same_hash = canonical_hash;
    }
