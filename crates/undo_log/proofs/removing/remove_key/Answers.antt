-- `remove_key` meets its contract: what it counts with is read before anything is written. Assumes nothing.
use native.Mathlib.Omega.{arith}
use Rattle.layout.specs.Reading.{attribute_count}
use Rattle.mutation.proofs.Facts.{counts}
use Rattle.undo_log.proofs.removing.remove_key.Goals as goal

pub overflow_cast-total : goal.overflow_cast-total
unfolding attribute_count
overflow_cast-total c =
    omega (arith, (counts c.args.store.now c.requires.sound).attributes)
