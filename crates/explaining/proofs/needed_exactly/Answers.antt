-- The clause by the lemma that it is. Assumes nothing.
use Rattle.explaining.proofs.Least.{needed_exactly}
use Rattle.explaining.proofs.needed_exactly.Goals as goal

pub returns : goal.returns
returns c = needed_exactly
