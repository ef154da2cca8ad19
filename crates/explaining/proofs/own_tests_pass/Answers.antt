-- The clause by the lemma that it is. Assumes nothing.
use Rattle.explaining.proofs.NamesLast.{own_tests_pass}
use Rattle.explaining.proofs.own_tests_pass.Goals as goal

pub returns : goal.returns
returns c = own_tests_pass
