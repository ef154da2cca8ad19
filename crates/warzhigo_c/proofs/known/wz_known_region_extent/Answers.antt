-- `wz_known_region_extent` meets its contract: the answer's numbers stand for it. Assumes nothing.
use mathlib.Core.Path.{sym}
use Rattle.warzhigo_c.specs.Codes.{ignoring}
use Rattle.warzhigo_c.proofs.known.wz_known_region_extent.Goals as goal

pub returns : goal.returns
unfolding ignoring
returns c = rw (c.of_extent.ensures, sym c.array.ensures) c.sound_extent.ensures
