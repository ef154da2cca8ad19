-- `wz_operation_key` meets its contract: the answer's numbers stand for it. Assumes nothing.
use Rattle.warzhigo_c.specs.Codes.{ignoring}
use Rattle.warzhigo_c.proofs.offered.wz_operation_key.Goals as goal

pub returns : goal.returns
unfolding ignoring
returns c = rw c.of_key.ensures c.operation_key.ensures
