-- `first_at` meets its contract: each turn leaves the rest to search, until a word is w or none is left. Assumes nothing.
use Prim.Native.Nat.{◌-◌}
use mathlib.Core.Path.{◌≡◌}
use Rattle.layout.specs.Columns.{columns}
use Rattle.layout.specs.Children.{first_word}
use Rattle.layout.proofs.children.first_at.Given as goal

abbrev pub invariant-loop-i : goal.invariant-loop-i
invariant-loop-i l = first_word (columns l.store) l.column l.w l.a (l.e - l.a) ≡ first_word (columns l.store) l.column l.w l.i (l.e - l.i)
