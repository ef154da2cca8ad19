-- A block's number fits a word. Assumes nothing.
use native.Mathlib.Omega.{arith}
use Rattle.fragments.proofs.Few.{block_low}
use Rattle.fragments.proofs.rows.block_row.Goals as goal

pub overflow_cast-n : goal.overflow_cast-n
overflow_cast-n c = omega (arith, block_low _ c.requires.sound _ c.requires.n_bound)
