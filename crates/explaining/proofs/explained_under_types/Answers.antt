-- The clause by the lemma that it is. Assumes nothing.
use Rattle.explaining.proofs.Asking.{explained_under_types}
use Rattle.explaining.proofs.explained_under_types.Goals as goal

pub returns : goal.returns
returns c = explained_under_types
