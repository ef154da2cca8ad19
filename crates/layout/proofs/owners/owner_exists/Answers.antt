-- `owner_exists` meets its contract, case by case. Assumes nothing.
use Rattle.rules.specs.Store.{owner_exists}
use Rattle.layout.proofs.owners.owner_exists.Goals as goal

pub returns-in-Op : goal.returns-in-Op
unfolding owner_exists
returns-in-Op c = rw c.in-Op.is c.op_exists.ensures

pub returns-in-Block : goal.returns-in-Block
unfolding owner_exists
returns-in-Block c = rw c.in-Block.is c.block_exists.ensures
