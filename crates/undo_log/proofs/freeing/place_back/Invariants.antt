-- `place_back` meets its contract: each turn lowers one place. Assumes nothing.
use mathlib.Core.Path.{◌≡◌}
use Rattle.layout.specs.Columns.{columns}
use Rattle.undo_log.proofs.Lowered.{lowering}
use Rattle.undo_log.proofs.freeing.place_back.Given as goal

abbrev pub invariant-loop-i : goal.invariant-loop-i
invariant-loop-i l = columns l.store ≡ lowering (columns l.initial.store) l.n l.i
