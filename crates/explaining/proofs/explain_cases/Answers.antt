-- The clause by the lemma that it is. Assumes nothing.
use Rattle.explaining.proofs.Computed.{explain_cases_hold}
use Rattle.explaining.proofs.explain_cases.Goals as goal

pub returns : goal.returns
returns c = explain_cases_hold
