-- The clause by the lemma that it is. Assumes nothing.
use Rattle.planning.proofs.Rule.{plan_only}
use Rattle.planning.proofs.plan_only.Goals as goal

pub returns : goal.returns
returns c = plan_only
