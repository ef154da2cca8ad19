-- The clause by the lemma that it is. Assumes nothing.
use Rattle.planning.proofs.Laws.{kept_first}
use Rattle.planning.proofs.kept_first.Goals as goal

pub returns : goal.returns
returns c = kept_first
