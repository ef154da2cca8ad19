-- `none_renamed` meets its contract: a lookup tells of each present type whether it has a row. Assumes nothing.
use Prim.Native.Nat.{ℕ}
use mathlib.Core.Bool.{true, not}
use mathlib.Core.List.{List}
use mathlib.Core.Path.{◌≡◌}
use lib.ListN.{get_or, take}
use Rattle.std.specs.List.{list_all}
use Rattle.rules.specs.Types.{old_types, stands_in}
use Rattle.fragments.proofs.indexing.none_renamed.Given as goal

abbrev pub invariant-loop-present : goal.invariant-loop-present
invariant-loop-present l = list_all (λ (row : List ℕ). not (stands_in (old_types l.types) (get_or row 1 0))) (take l.present-index l.rows) ≡ true
