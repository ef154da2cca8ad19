-- The clause by the lemma that it is. Assumes nothing.
use Rattle.planning.proofs.Redirecting.{one_image}
use Rattle.planning.proofs.one_image.Goals as goal

pub returns : goal.returns
returns c = one_image
