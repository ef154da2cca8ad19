-- `put_uses` meets its contract: what is put behind the count are the names up to the next one. Assumes nothing.
use Prim.Native.Nat.{ℕ}
use lib.ListN.{take}
use Rattle.std.specs.List.{flat_map}
use Rattle.rules.specs.Hash as rules
use Rattle.rules.specs.declared.types.Name.{Name}
use Rattle.keys.proofs.Putting.{PutAt}
use Rattle.keys.specs.Written.{NamesEach}
use Rattle.keys.proofs.Naming.{named_bytes}
use Rattle.keys.proofs.names.put_uses.Given as goal

abbrev pub invariant-loop-n : goal.invariant-loop-n
invariant-loop-n g l =
    (named : ℕ → Name) → NamesEach (goal.F-post g l.name_of) l.list named
    → PutAt (flat_map (named_bytes named) (take l.n-index l.list)) l.initial.key l.initial.at l.key l.at
