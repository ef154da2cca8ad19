-- The clause by the lemma that it is. Assumes nothing.
use Rattle.semantics.proofs.Laws.{same_work}
use Rattle.semantics.proofs.same_work.Goals as goal

pub returns : goal.returns
returns g c = same_work g.row.D.Denot g.row.W.Denot g.row.M.Denot
