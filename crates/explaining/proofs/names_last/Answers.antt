-- The clause by the lemma that it is. Assumes nothing.
use Rattle.explaining.proofs.NamesLast.{names_last}
use Rattle.explaining.proofs.names_last.Goals as goal

pub returns : goal.returns
returns c = names_last
