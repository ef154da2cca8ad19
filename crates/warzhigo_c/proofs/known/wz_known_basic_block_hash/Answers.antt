-- `wz_known_basic_block_hash` meets its contract: the answer's numbers stand for it. Assumes nothing.
use mathlib.Core.Path.{sym}
use Rattle.warzhigo_c.specs.Codes.{ignoring}
use Rattle.warzhigo_c.proofs.known.wz_known_basic_block_hash.Goals as goal

pub returns : goal.returns
unfolding ignoring
returns c = rw (c.of_hash.ensures, sym c.array.ensures) c.fragment_hash.ensures.told
