-- `wz_repeated_run` meets its contract: the answer's numbers stand for it. Assumes nothing.
use Rattle.warzhigo_c.specs.Codes.{ignoring}
use Rattle.warzhigo_c.proofs.offered.wz_repeated_run.Goals as goal

pub returns : goal.returns
unfolding ignoring
returns c = rw c.of_run.ensures c.repeated_run.ensures.told
