-- The clause by the lemma that it is. Assumes nothing.
use Rattle.planning.proofs.Results.{results_beside}
use Rattle.planning.proofs.results_beside.Goals as goal

pub returns : goal.returns
returns c = results_beside
