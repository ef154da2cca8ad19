-- The clause by the lemma that it is. Assumes nothing.
use Rattle.planning.proofs.Laws.{merged_apart}
use Rattle.planning.proofs.merged_apart.Goals as goal

pub returns : goal.returns
returns c = merged_apart
