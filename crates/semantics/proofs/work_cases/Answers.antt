-- The clause by the lemma that it is. Assumes nothing.
use Rattle.semantics.proofs.WorkComputed.{work_cases_hold}
use Rattle.semantics.proofs.work_cases.Goals as goal

pub returns : goal.returns
returns c = work_cases_hold
