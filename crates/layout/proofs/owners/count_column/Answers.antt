-- `count_column` meets its contract: it is read off the owner's case. Assumes nothing.
use mathlib.Core.Path.{sym, ap}
use Rattle.rules.specs.declared.types.Owner.{Owner}
use Rattle.layout.specs.Owners.{count_column}
use Rattle.layout.proofs.owners.count_column.Goals as goal

pub returns-in-Op : goal.returns-in-Op
unfolding count_column
returns-in-Op c = sym (ap (λ (o : Owner). count_column o) c.in-Op.is)

pub returns-in-Block : goal.returns-in-Block
unfolding count_column
returns-in-Block c = sym (ap (λ (o : Owner). count_column o) c.in-Block.is)
