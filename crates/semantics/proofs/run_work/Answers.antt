-- The clause by the lemma that it is. Assumes nothing.
use Rattle.semantics.proofs.BlockRuns.{run_work}
use Rattle.semantics.proofs.run_work.Goals as goal

pub returns : goal.returns
returns g c = run_work g.row.D.Denot g.row.W.Denot g.row.M.Denot
