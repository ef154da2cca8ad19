-- `wz_basic_block_extent` meets its contract: the answer's numbers stand for it. Assumes nothing.
use mathlib.Core.Path.{◌∙◌}
use Rattle.warzhigo_c.specs.Codes.{ignoring}
use Rattle.warzhigo_c.proofs.offered.wz_basic_block_extent.Goals as goal

pub returns : goal.returns
unfolding ignoring
returns c = c.of_extent.ensures ∙ c.basic_block_extent.ensures
