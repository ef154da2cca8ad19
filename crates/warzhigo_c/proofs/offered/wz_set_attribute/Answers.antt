-- `wz_set_attribute` meets its contract: the answer's numbers stand for it, and the owner for the two that are given. Assumes nothing.
use mathlib.Core.Path.{sym}
use Rattle.warzhigo_c.specs.Codes.{attribute_from}
use Rattle.warzhigo_c.proofs.offered.wz_set_attribute.Goals as goal

pub returns : goal.returns
unfolding attribute_from
returns c = rw (c.of_done.ensures, sym c.owner.ensures) c.set_attribute.ensures
