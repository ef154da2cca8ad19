-- The clause by the lemma that it is. Assumes nothing.
use Rattle.planning.proofs.PlanComputed.{plan_cases_hold}
use Rattle.planning.proofs.plan_cases.Goals as goal

pub returns : goal.returns
returns c = plan_cases_hold
