-- The clause by the lemma that it is. Assumes nothing.
use Rattle.planning.proofs.Told.{plan_whole}
use Rattle.planning.proofs.plan_whole.Goals as goal

pub returns : goal.returns
returns c = plan_whole
