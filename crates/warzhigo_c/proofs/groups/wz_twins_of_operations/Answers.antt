-- `wz_twins_of_operations` meets its contract: the answer's numbers stand for it. Assumes nothing.
use Rattle.warzhigo_c.specs.Codes.{ignoring}
use Rattle.warzhigo_c.proofs.groups.wz_twins_of_operations.Goals as goal

pub returns : goal.returns
unfolding ignoring
returns c = rw c.of_grouped.ensures c.twins_of_operations.ensures.told
