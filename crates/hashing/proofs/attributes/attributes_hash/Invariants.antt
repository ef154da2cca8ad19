-- `attributes_hash` meets its contract: the number of kept slots is fed, and then those that came. Assumes nothing.
use Rattle.std.proofs.Common.{◌≡◌, ℕ, List}
use Rattle.std.specs.List.{flat_map}
use Rattle.rules.specs.Hash.{fnv_from, attribute_bytes}
use Rattle.layout.specs.Columns.{Cols, columns}
use Rattle.layout.specs.Reading.{attribute_at}
use Rattle.hashing.proofs.attributes.attributes_hash.Given as goal

-- what a slot feeds: its attribute
abbrev pub slot_bytes : Cols → ℕ → List ℕ
slot_bytes C i = attribute_bytes (attribute_at C i)

abbrev pub invariant-loop-slot : goal.invariant-loop-slot
invariant-loop-slot l = l.state.word ≡ fnv_from l.initial.state.word (flat_map (slot_bytes (columns l.store)) l.yielded)
