-- The clause by the lemma that it is. Assumes nothing.
use Rattle.planning.proofs.Words.{words_read}
use Rattle.planning.proofs.words_read.Goals as goal

pub returns : goal.returns
returns c = words_read
