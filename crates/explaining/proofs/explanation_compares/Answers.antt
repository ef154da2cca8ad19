-- The clause by the lemma that it is. Assumes nothing.
use Rattle.explaining.proofs.Asking.{explanation_compares}
use Rattle.explaining.proofs.explanation_compares.Goals as goal

pub returns : goal.returns
returns c = explanation_compares
