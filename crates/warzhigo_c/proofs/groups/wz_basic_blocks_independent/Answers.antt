-- `wz_basic_blocks_independent` meets its contract: the answer's numbers stand for it. Assumes nothing.
use Rattle.warzhigo_c.proofs.groups.wz_basic_blocks_independent.Goals as goal

pub returns : goal.returns
returns c = rw c.of_independence.ensures c.basic_blocks_independent.ensures.told
