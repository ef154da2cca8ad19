-- The clause by the lemma that it is. Assumes nothing.
use Rattle.laws.proofs.Worked.{copy_work_of_code}
use Rattle.laws.proofs.work.copy_work_of_code.Goals as goal

pub returns : goal.returns
returns g c = copy_work_of_code g.row.D.Denot g.row.W.Denot g.row.M.Denot
