-- `wz_known_twins_of_operations` meets its contract: the answer's numbers stand for it. Assumes nothing.
use mathlib.Core.Path.{sym}
use Rattle.warzhigo_c.specs.Codes.{ignoring}
use Rattle.warzhigo_c.proofs.groups.wz_known_twins_of_operations.Goals as goal

pub returns : goal.returns
unfolding ignoring
returns c = rw (c.of_grouped.ensures, sym c.array.ensures) c.find_twins.ensures.told
