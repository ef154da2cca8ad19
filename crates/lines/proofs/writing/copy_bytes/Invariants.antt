-- `copy_bytes` meets its contract: after each turn one entry more is in its place. Assumes nothing.
use Prim.Native.Nat.{◌≤◌}
use mathlib.Core.Path.{◌≡◌}
use lib.ListN.{length}
use lib.Seq.{paste}
use Rattle.lines.proofs.writing.copy_bytes.Given as goal

abbrev pub invariant-loop-j : goal.invariant-loop-j
invariant-loop-j l = (l.to ≡ paste l.initial.to l.from l.list l.j) × (l.j ≤ length l.list)
