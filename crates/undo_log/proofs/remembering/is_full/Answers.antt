-- `is_full` meets its contract: the count is compared. Assumes nothing.
use mathlib.Core.Path.{ap}
use lib.Dec.{leb}
use Rattle.undo_log.specs.EntryWrites.{replaced_count}
use Rattle.undo_log.proofs.remembering.is_full.Goals as goal

pub returns : goal.returns
unfolding replaced_count
returns c = ap (leb 1024) c.number.ensures
