-- The clause by the lemma that it is. Assumes nothing.
use Rattle.planning.proofs.Redirecting.{images_shrink}
use Rattle.planning.proofs.images_shrink.Goals as goal

pub returns : goal.returns
returns c = images_shrink
