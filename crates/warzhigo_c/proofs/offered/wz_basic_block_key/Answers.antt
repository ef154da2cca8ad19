-- `wz_basic_block_key` meets its contract: the answer's numbers stand for it. Assumes nothing.
use Rattle.warzhigo_c.specs.Codes.{ignoring}
use Rattle.warzhigo_c.proofs.offered.wz_basic_block_key.Goals as goal

pub returns : goal.returns
unfolding ignoring
returns c = rw c.of_key.ensures c.basic_block_key.ensures
