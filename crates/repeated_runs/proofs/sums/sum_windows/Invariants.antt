-- `sum_windows` meets its contract: at each turn the sum is that of the window from i on, and the starts up to i have theirs. Assumes nothing.
use Rattle.std.proofs.Common.{◌≡◌, ◌+◌}
use Rattle.rules.specs.Runs.{run_of, weighted}
use Rattle.repeated_runs.proofs.Summed.{Summed}
use Rattle.repeated_runs.proofs.sums.sum_windows.Given as goal

abbrev pub invariant-loop-i : goal.invariant-loop-i
invariant-loop-i l =
    Summed l.hashes l.sums l.n (l.i + 1) × (l.sum ≡ weighted (run_of l.hashes l.n l.i))
