-- `operation_extent` meets its contract: it is `lent_extent` at its sort. Assumes nothing.
use Rattle.api.proofs.extents.operation_extent.Goals as goal

pub returns : goal.returns
returns c = c.lent_extent.ensures
