-- `window_sum` meets its contract: after each turn one hash more is added, times its power. Assumes nothing.
use Rattle.std.proofs.Common.{◌≡◌, drop}
use Rattle.rules.specs.Runs.{weighted}
use Rattle.repeated_runs.proofs.Weights.{from_front}
use Rattle.repeated_runs.proofs.sums.window_sum.Given as goal

abbrev pub invariant-loop-i : goal.invariant-loop-i
invariant-loop-i l = from_front l.sum (drop l.i l.hashes) ≡ weighted l.hashes
