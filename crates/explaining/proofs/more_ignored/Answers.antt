-- The clause by the lemma that it is. Assumes nothing.
use Rattle.explaining.proofs.Ignoring.{more_ignored}
use Rattle.explaining.proofs.more_ignored.Goals as goal

pub returns : goal.returns
returns c = more_ignored
