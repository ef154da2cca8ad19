-- `basic_block_hash` meets its contract: it is `lent_hash` at its sort. Assumes nothing.
use Rattle.api.proofs.hashes.basic_block_hash.Goals as goal

pub returns : goal.returns
returns c = c.lent_hash.ensures
