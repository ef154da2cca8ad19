-- The clause by the lemma that it is. Assumes nothing.
use Rattle.semantics.proofs.Replaced.{replaced_work}
use Rattle.semantics.proofs.replaced_work.Goals as goal

pub returns : goal.returns
returns g c = replaced_work g.row.D.Denot g.row.W.Denot g.row.M.Denot
