-- `first_slot` meets its contract: it is read off the owner's case. Assumes nothing.
use mathlib.Core.Path.{sym, ap}
use Rattle.layout.specs.Reading.{slots_of}
use Rattle.rules.specs.declared.types.Owner.{Owner}
use Rattle.layout.proofs.owners.first_slot.Goals as goal

pub returns-in-Op : goal.returns-in-Op
unfolding slots_of
returns-in-Op c = sym (ap (λ (o : Owner). slots_of o) c.in-Op.is)

pub returns-in-Block : goal.returns-in-Block
unfolding slots_of
returns-in-Block c = sym (ap (λ (o : Owner). slots_of o) c.in-Block.is)
