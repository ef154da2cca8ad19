-- `wz_go_back` meets its contract: the answer's numbers stand for it. Assumes nothing.
use Rattle.warzhigo_c.proofs.offered.wz_go_back.Goals as goal

pub returns : goal.returns
returns c = rw c.of_done.ensures c.go_back.ensures
