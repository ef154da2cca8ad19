-- The clause by the lemma that it is. Assumes nothing.
use Rattle.semantics.proofs.Laws.{equal_exactly}
use Rattle.semantics.proofs.equal_exactly.Goals as goal

pub returns : goal.returns
returns c = equal_exactly
