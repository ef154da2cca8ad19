-- The clause by the lemma that it is. Assumes nothing.
use Rattle.planning.proofs.Sizes.{size_counts}
use Rattle.planning.proofs.size_counts.Goals as goal

pub returns : goal.returns
returns c = size_counts
