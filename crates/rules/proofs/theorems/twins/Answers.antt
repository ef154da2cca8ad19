-- Each clause by the lemma that it is. Assumes nothing.
use Rattle.rules.proofs.Grouping.Twins.{twin_found, twin_none, twin_alike}
use Rattle.rules.proofs.theorems.twins.Goals as goal

pub returns : goal.returns
returns c =
    record {
      found = twin_found;
      none_exactly_when_there_is_none = twin_none;
      alike = twin_alike;
    }
