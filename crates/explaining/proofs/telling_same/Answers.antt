-- The clause by the lemma that it is. Assumes nothing.
use Rattle.explaining.proofs.Telling.{telling_same}
use Rattle.explaining.proofs.telling_same.Goals as goal

pub returns : goal.returns
returns c = telling_same
