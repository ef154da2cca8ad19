-- `wz_new_block` meets its contract: the answer's numbers stand for it. Assumes nothing.
use Rattle.warzhigo_c.proofs.offered.wz_new_block.Goals as goal

pub returns : goal.returns
returns c = rw c.of_made.ensures c.new_block.ensures
