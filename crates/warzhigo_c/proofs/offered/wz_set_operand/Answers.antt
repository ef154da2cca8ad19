-- `wz_set_operand` meets its contract: the answer's numbers stand for it. Assumes nothing.
use Rattle.warzhigo_c.proofs.offered.wz_set_operand.Goals as goal

pub returns : goal.returns
returns c = rw c.of_done.ensures c.set_operand.ensures
