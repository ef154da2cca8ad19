-- The clause by the lemma that it is. Assumes nothing.
use Rattle.planning.proofs.Laws.{stands_kept}
use Rattle.planning.proofs.stands_kept.Goals as goal

pub returns : goal.returns
returns c = stands_kept
