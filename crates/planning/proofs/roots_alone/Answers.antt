-- The clause by the lemma that it is. Assumes nothing.
use Rattle.planning.proofs.Redirecting.{roots_alone}
use Rattle.planning.proofs.roots_alone.Goals as goal

pub returns : goal.returns
returns c = roots_alone
