-- `sum_of` meets its contract: after each turn one entry more is in the sum, and entries of at most 8 keep it small. Assumes nothing.
use Prim.Native.Nat.{◌≤◌}
use mathlib.Core.Path.{◌≡◌}
use Rattle.rules.specs.Lists.{sum}
use Rattle.layout.specs.Columns.{columns, at}
use Rattle.layout.specs.Reading.{tabulate}
use Rattle.layout.proofs.checks.sum_of.Given as goal

abbrev pub invariant-loop-i : goal.invariant-loop-i
invariant-loop-i l = (l.i ≤ l.n) × (l.total ≡ sum (tabulate l.i (at (columns l.store) l.column)))
