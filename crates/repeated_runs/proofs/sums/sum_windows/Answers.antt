-- `sum_windows` meets its contract: at each turn the sum is that of the window from i on, and the starts up to i have theirs. Assumes nothing.
use Rattle.std.proofs.Common.{arith}
use Rattle.rules.specs.Runs.{run_of}
use Rattle.repeated_runs.proofs.Summed.{summed_none, summed_next}
use Rattle.repeated_runs.proofs.sums.sum_windows.Goals as goal

pub loop-i-init : goal.loop-i-init
unfolding run_of
loop-i-init c =
    let hashes = c.args.hashes.now in
    let sums = c.args.sums.now in
    let n = c.args.n in
    (summed_next hashes sums n 0 (summed_none hashes sums n c.requires.hashes_in_bounds) (omega arith) c.window_sum-sum.ensures, c.window_sum-sum.ensures)
