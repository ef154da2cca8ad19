-- `basic_block_extent` meets its contract: it is `lent_extent` at its sort. Assumes nothing.
use Rattle.api.proofs.extents.basic_block_extent.Goals as goal

pub returns : goal.returns
returns c = c.lent_extent.ensures
