-- The clause by the lemma that it is. Assumes nothing.
use Rattle.explaining.proofs.Explaining.{explained_lem}
use Rattle.explaining.proofs.explained.Goals as goal

pub returns : goal.returns
returns c = explained_lem
