-- The clause by the lemma that it is. Assumes nothing.
use Rattle.laws.proofs.Obeyed.{demand3_of_code}
use Rattle.laws.proofs.theorems.laws_of_the_answers.Goals as goal

pub returns : goal.returns
returns c = demand3_of_code
