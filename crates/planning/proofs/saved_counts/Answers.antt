-- The clause by the lemma that it is. Assumes nothing.
use Rattle.planning.proofs.Count.{saved_counts}
use Rattle.planning.proofs.saved_counts.Goals as goal

pub returns : goal.returns
returns c = saved_counts
