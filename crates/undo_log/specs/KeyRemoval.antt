-- What a key that is taken out leaves, column by column.
use Rattle.std.specs.Prelude.{ℕ, ◌+◌, ◌-◌}
use Rattle.rules.specs.declared.types.Owner.{Owner}
use Rattle.layout.specs.Columns.{Cols, write, write_range, counts, slot_key, slot_kind, slot_content}
use Rattle.layout.specs.Reading.{attribute_count, slots_of, slice}
use Rattle.layout.specs.Owners.{count_column, owner_number, key_count}

-- a word taken out of place i of a column: the words behind it up to place e move one place down
unfoldable pub removed : Cols → ℕ → ℕ → ℕ → Cols
removed C k i e = write_range C k i (slice (C k) (i + 1) e)

-- an owner's slot taken out, and both counts that its attribute was in
unfoldable pub without_slot : Cols → Owner → ℕ → Cols
without_slot C w i =
    write
    (write
    (removed (removed (removed C slot_key i (slots_of w + key_count C w)) slot_kind i (slots_of w + key_count C w)) slot_content i (slots_of w + key_count C w))
    (count_column w) (owner_number w) (key_count C w - 1))
    counts 6 (attribute_count C - 1)
