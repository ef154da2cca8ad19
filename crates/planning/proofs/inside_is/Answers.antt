-- The clause by the lemma that it is. Assumes nothing.
use Rattle.planning.proofs.Laws.{inside_is}
use Rattle.planning.proofs.inside_is.Goals as goal

pub returns : goal.returns
returns c = inside_is
