-- `wz_known_entered` meets its contract: the answer's numbers are those of `entered`. Assumes nothing.
use mathlib.Core.Path.{sym}
use Rattle.warzhigo_c.proofs.known.wz_known_entered.Goals as goal

pub returns : goal.returns
returns c = rw (c.of_entries.ensures, sym c.array-2.ensures) c.entered.ensures
