-- The clause by the lemma that it is. Assumes nothing.
use Rattle.explaining.proofs.Operands.{no_operand_type}
use Rattle.explaining.proofs.no_operand_type.Goals as goal

pub returns : goal.returns
returns c = no_operand_type
