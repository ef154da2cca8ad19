-- The clause by the lemma that it is. Assumes nothing.
use Rattle.explaining.proofs.Least.{needed_fits}
use Rattle.explaining.proofs.needed_fits.Goals as goal

pub returns : goal.returns
returns c = needed_fits
