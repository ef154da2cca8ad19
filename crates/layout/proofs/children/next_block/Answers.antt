-- `next_block` meets its contract: a region's blocks are its children. Assumes nothing.
use Rattle.layout.proofs.Laid.{laid_facts}
use Rattle.layout.proofs.Following.{region_owns}
use Rattle.layout.proofs.children.next_block.Goals as goal

pub next_child-requires : goal.next_child-requires
next_child-requires c = region_owns _ (laid_facts _ c.requires.arranged.laid) c.args.region c.requires.region_bound
