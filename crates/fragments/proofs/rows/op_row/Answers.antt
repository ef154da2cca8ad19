-- An operation's number fits a word. Assumes nothing.
use native.Mathlib.Omega.{arith}
use Rattle.fragments.proofs.Few.{op_low}
use Rattle.fragments.proofs.rows.op_row.Goals as goal

pub overflow_cast-n : goal.overflow_cast-n
overflow_cast-n c = omega (arith, op_low _ c.requires.sound _ c.requires.n_bound)
