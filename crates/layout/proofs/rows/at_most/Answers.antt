-- `at_most` meets its contract: the range is as long as its end is behind its begin. Assumes nothing.
use Prim.Native.Nat.{ℕ, ◌-◌}
use mathlib.Core.Path.{ap₂}
use lib.Dec.{leb}
use Rattle.layout.proofs.rows.at_most.Goals as goal

pub returns : goal.returns
returns c = ap₂ (λ (e a : ℕ). leb (e - a) c.args.most) c.number-e.ensures c.number-a.ensures
