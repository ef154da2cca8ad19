-- The clause by the lemma that it is. Assumes nothing.
use Rattle.planning.proofs.Laws.{smallest_stands}
use Rattle.planning.proofs.smallest_stands.Goals as goal

pub returns : goal.returns
returns c = smallest_stands
