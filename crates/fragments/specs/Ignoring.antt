-- The ignore rule as the code has it, and what is left of a run of attribute slots once ignored ones are passed over.
use Rattle.std.specs.Prelude.{ℕ, ◌-◌, ◌/◌, ◌%◌, ◌^◌, Bool, not, List, eqb}
use Rattle.std.specs.List.{range_with_len}
use Rattle.std.specs.List.{filter}
use Rattle.rules.specs.declared.types.Attribute.{Attribute}
use Rattle.rules.specs.Shells as rules
use Rattle.rules.specs.Shells.{ignored, unignored}
use Rattle.layout.specs.Columns.{Cols}
use Rattle.layout.specs.Reading.{attribute_at, attributes_from}
use Rattle.rules.specs.declared.types.Ignore.{Ignore}

-- "the bit of its kind (bit 0 the lowest) is set"
unfoldable pub bit_set : ℕ → ℕ → Bool
bit_set bits kind = eqb ((bits / 2 ^ kind) % 2) 1

-- the unignored attributes of the slots from a on, up to e
unfoldable pub kept_from : Cols → Ignore → ℕ → ℕ → List Attribute
kept_from C ig a e = unignored ig (attributes_from C a (e - a))

-- and their slots
unfoldable pub kept_slots : Cols → Ignore → ℕ → ℕ → List ℕ
kept_slots C ig a e = filter (λ (i : ℕ). not (ignored ig (attribute_at C i))) (range_with_len a (e - a))
