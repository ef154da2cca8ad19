-- `wz_operation_extent` meets its contract: the answer's numbers stand for it. Assumes nothing.
use mathlib.Core.Path.{◌∙◌}
use Rattle.warzhigo_c.specs.Codes.{ignoring}
use Rattle.warzhigo_c.proofs.offered.wz_operation_extent.Goals as goal

pub returns : goal.returns
unfolding ignoring
returns c = c.of_extent.ensures ∙ c.operation_extent.ensures
