-- `run_of` meets its contract: it is the part of the list that begins at i. Assumes nothing.
use Prim.Native.Nat.{ℕ, ◌+◌, ◌-◌}
use native.Mathlib.Omega.{arith}
use mathlib.Core.Path.{◌≡◌, ap}
use lib.ListN.{take, drop}
use Rattle.rules.specs.Runs.{run_of}
use Rattle.repeated_runs.proofs.comparing.run_of.Goals as goal

pub returns : goal.returns
unfolding run_of
returns c =
    let a = c.args in
    let many : a.i + a.n - a.i ≡ a.n = omega arith in
    ap (λ (k : ℕ). take k (drop a.i a.ops.now)) many
