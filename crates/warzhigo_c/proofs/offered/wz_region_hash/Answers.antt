-- `wz_region_hash` meets its contract: the answer's numbers stand for it. Assumes nothing.
use Rattle.warzhigo_c.specs.Codes.{ignoring}
use Rattle.warzhigo_c.proofs.offered.wz_region_hash.Goals as goal

pub returns : goal.returns
unfolding ignoring
returns c = rw c.of_hash.ensures c.region_hash.ensures.told
