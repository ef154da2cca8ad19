-- The clause by the lemma that it is. Assumes nothing.
use Rattle.laws.proofs.Agreed.{demand2_of_code}
use Rattle.laws.proofs.theorems.agreement_of_the_answers.Goals as goal

pub returns : goal.returns
returns c = demand2_of_code
