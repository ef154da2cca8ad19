-- The clause by the lemma that it is. Assumes nothing.
use Rattle.semantics.proofs.Found.{equal_isomorphic}
use Rattle.semantics.proofs.equal_isomorphic.Goals as goal

pub returns : goal.returns
returns c = equal_isomorphic
