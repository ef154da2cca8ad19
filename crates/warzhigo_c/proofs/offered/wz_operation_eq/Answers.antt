-- `wz_operation_eq` meets its contract: the answer's numbers stand for it. Assumes nothing.
use Rattle.warzhigo_c.specs.Codes.{ignoring}
use Rattle.warzhigo_c.proofs.offered.wz_operation_eq.Goals as goal

pub returns : goal.returns
unfolding ignoring
returns c = rw c.of_verdict.ensures c.operation_eq.ensures
