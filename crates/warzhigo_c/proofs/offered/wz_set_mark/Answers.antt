-- `wz_set_mark` meets its contract: the answer's numbers stand for it. Assumes nothing.
use Rattle.warzhigo_c.proofs.offered.wz_set_mark.Goals as goal

pub returns : goal.returns
returns c = rw c.of_done.ensures c.set_mark.ensures
