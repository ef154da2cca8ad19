-- The clause by the lemma that it is. Assumes nothing.
use Rattle.planning.proofs.Laws.{gone_exactly}
use Rattle.planning.proofs.gone_exactly.Goals as goal

pub returns : goal.returns
returns c = gone_exactly
