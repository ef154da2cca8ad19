-- Each clause by the lemma that it is. Assumes nothing.
use Rattle.laws.proofs.Mapped.{mapping_laws_of_code}
use Rattle.laws.proofs.Lent.{allowed_again}
use Rattle.laws.proofs.theorems.mappings_left.Goals as goal

pub returns : goal.returns
returns c =
    record {
      laws = mapping_laws_of_code;
      allowed_again = allowed_again;
    }
