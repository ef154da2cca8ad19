-- The clause by the lemma that it is. Assumes nothing.
use Rattle.planning.proofs.Rule.{plan_ruled}
use Rattle.planning.proofs.plan_ruled.Goals as goal

pub returns : goal.returns
returns c = plan_ruled
