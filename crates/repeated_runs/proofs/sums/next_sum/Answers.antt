-- `next_sum` meets its contract: a window's sum is kept from the one before it. Assumes nothing.
use Rattle.std.proofs.Common.{refl}
use Rattle.repeated_runs.proofs.Kept.{window_kept}
use Rattle.repeated_runs.proofs.sums.next_sum.Goals as goal

pub returns : goal.returns
returns c =
    let a = c.args in
    window_kept a.hashes.now a.n a.i a.power a.sum c.requires.le_n c.requires.n_in_bounds c.requires.power_value c.requires.sum_value c.wrapping_mul-leaving.ensures refl c.wrapping_mul-kept.ensures refl
