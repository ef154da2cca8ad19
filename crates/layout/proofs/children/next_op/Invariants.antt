-- `next_op` meets its contract: a block's operations are its children. Assumes nothing.
use Rattle.rules.specs.Store.{ops_of}
use Rattle.layout.specs.Reading.{store_in}
use Rattle.layout.proofs.children.next_op.Given as goal

abbrev pub ghost-next_child : goal.ghost-next_child
ghost-next_child a = ops_of (store_in a.store.now) a.owner
