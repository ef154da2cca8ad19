-- The clause by the lemma that it is. Assumes nothing.
use Rattle.planning.proofs.Laws.{kept_twinless}
use Rattle.planning.proofs.kept_twinless.Goals as goal

pub returns : goal.returns
returns c = kept_twinless
