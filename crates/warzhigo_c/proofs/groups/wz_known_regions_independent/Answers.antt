-- `wz_known_regions_independent` meets its contract: the answer's numbers stand for it. Assumes nothing.
use mathlib.Core.Path.{sym}
use Rattle.warzhigo_c.proofs.groups.wz_known_regions_independent.Goals as goal

pub returns : goal.returns
returns c = rw (c.of_independence.ensures, sym c.array.ensures) c.sound_independent.ensures.told
