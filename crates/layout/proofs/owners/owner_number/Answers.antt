-- `owner_number` meets its contract: it is read off the owner's case. Assumes nothing.
use mathlib.Core.Path.{sym, ap}
use Rattle.rules.specs.declared.types.Owner.{Owner}
use Rattle.layout.specs.Owners.{owner_number}
use Rattle.layout.proofs.owners.owner_number.Goals as goal

pub returns-in-Op : goal.returns-in-Op
unfolding owner_number
returns-in-Op c = sym (ap (λ (o : Owner). owner_number o) c.in-Op.is)

pub returns-in-Block : goal.returns-in-Block
unfolding owner_number
returns-in-Block c = sym (ap (λ (o : Owner). owner_number o) c.in-Block.is)
