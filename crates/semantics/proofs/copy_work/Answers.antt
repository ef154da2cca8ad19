-- The clause by the lemma that it is. Assumes nothing.
use Rattle.semantics.proofs.Copies.{copy_work}
use Rattle.semantics.proofs.copy_work.Goals as goal

pub returns : goal.returns
returns g c = copy_work g.row.D.Denot g.row.W.Denot g.row.M.Denot
