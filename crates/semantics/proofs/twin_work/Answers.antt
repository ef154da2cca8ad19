-- The clause by the lemma that it is. Assumes nothing.
use Rattle.semantics.proofs.Copies.{twin_work}
use Rattle.semantics.proofs.twin_work.Goals as goal

pub returns : goal.returns
returns g c = twin_work g.row.D.Denot g.row.W.Denot g.row.M.Denot
