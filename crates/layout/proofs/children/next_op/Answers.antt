-- `next_op` meets its contract: a block's operations are its children. Assumes nothing.
use Rattle.layout.proofs.Laid.{laid_facts}
use Rattle.layout.proofs.Following.{block_owns}
use Rattle.layout.proofs.children.next_op.Goals as goal

pub next_child-requires : goal.next_child-requires
next_child-requires c = block_owns _ (laid_facts _ c.requires.arranged.laid) c.args.block c.requires.block_bound
