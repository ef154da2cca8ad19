-- Each clause by the lemma that it is. Assumes nothing.
use Rattle.rules.proofs.Stated.{inherent_kept}
use Rattle.rules.proofs.Attributes.{unignored_same}
use Rattle.rules.proofs.theorems.attributes.Goals as goal

pub returns : goal.returns
returns c =
    record {
      inherent_kept = inherent_kept;
      unignored_same = unignored_same;
    }
