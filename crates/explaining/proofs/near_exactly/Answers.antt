-- The clause by the lemma that it is. Assumes nothing.
use Rattle.explaining.proofs.Near.{near_exactly}
use Rattle.explaining.proofs.near_exactly.Goals as goal

pub returns : goal.returns
returns c = near_exactly
