-- `next_block` meets its contract: a region's blocks are its children. Assumes nothing.
use Rattle.rules.specs.Store.{blocks_of}
use Rattle.layout.specs.Reading.{store_in}
use Rattle.layout.proofs.children.next_block.Given as goal

abbrev pub ghost-next_child : goal.ghost-next_child
ghost-next_child a = blocks_of (store_in a.store.now) a.owner
