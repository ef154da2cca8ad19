-- `wz_known_index_types` meets its contract: the answer's number stands for it. Assumes nothing.
use Rattle.warzhigo_c.proofs.Indexing.{indexed}
use Rattle.warzhigo_c.proofs.known.wz_known_index_types.Goals as goal

pub returns : goal.returns
returns c = rw c.unwrap_or.ensures (indexed c.args.types.now c.index_types.new.index c.index_types.result c.index_types.ensures)
