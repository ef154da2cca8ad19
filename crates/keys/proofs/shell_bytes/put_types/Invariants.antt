-- `put_types` meets its contract: what is put behind the count are the present types up to the next one. Assumes nothing.
use Prim.Native.Nat.{ℕ}
use mathlib.Core.List.{List}
use lib.ListN.{take}
use Rattle.std.specs.List.{flat_map}
use Rattle.rules.specs.Hash.{leaf}
use Rattle.rules.specs.Types.{present}
use Rattle.fragments.specs.Index.{list_in}
use Rattle.keys.proofs.Putting.{PutAt}
use Rattle.keys.proofs.shell_bytes.put_types.Given as goal

abbrev pub renamed : List ℕ → ℕ → List ℕ
renamed index t = leaf (present (list_in index) t)

abbrev pub invariant-loop-t : goal.invariant-loop-t
invariant-loop-t l = PutAt (flat_map (renamed l.index) (take l.t-index l.types)) l.initial.key l.initial.at l.key l.at
