-- The clause by the lemma that it is. Assumes nothing.
use Rattle.planning.proofs.Laws.{planned_twin}
use Rattle.planning.proofs.planned_twin.Goals as goal

pub returns : goal.returns
returns c = planned_twin
