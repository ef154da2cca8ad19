-- `wz_sums` meets its contract: the answer's numbers stand for it. Assumes nothing.
use Rattle.warzhigo_c.proofs.listings.wz_sums.Goals as goal

pub returns : goal.returns
returns c = rw c.of_listed.ensures c.sums.ensures
