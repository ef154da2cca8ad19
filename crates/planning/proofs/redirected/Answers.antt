-- The clause by the lemma that it is. Assumes nothing.
use Rattle.planning.proofs.Leading.{redirected}
use Rattle.planning.proofs.redirected.Goals as goal

pub returns : goal.returns
returns c = redirected
