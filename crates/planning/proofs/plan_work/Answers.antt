-- The clause by the lemma that it is. Assumes nothing.
use Rattle.planning.proofs.Work.{plan_work}
use Rattle.planning.proofs.plan_work.Goals as goal

pub returns : goal.returns
returns g c = plan_work g.row.D.Denot g.row.W.Denot g.row.M.Denot
