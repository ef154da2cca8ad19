-- `wz_new_operation` meets its contract: the answer's numbers stand for it, and the parent for the two that are given. Assumes nothing.
use mathlib.Core.Path.{sym}
use Rattle.warzhigo_c.proofs.offered.wz_new_operation.Goals as goal

pub returns : goal.returns
returns c = rw (c.of_made.ensures, sym c.parent.ensures) c.new_operation.ensures
