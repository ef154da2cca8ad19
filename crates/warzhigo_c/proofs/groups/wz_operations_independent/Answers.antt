-- `wz_operations_independent` meets its contract: the answer's numbers stand for it. Assumes nothing.
use Rattle.warzhigo_c.proofs.groups.wz_operations_independent.Goals as goal

pub returns : goal.returns
returns c = rw c.of_independence.ensures c.operations_independent.ensures.told
