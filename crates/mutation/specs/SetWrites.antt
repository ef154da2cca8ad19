-- What an accepted call that sets writes, column by column.
use Rattle.std.specs.Prelude.{ℕ, zero, suc, ◌+◌, Bool, cond, ◌&&◌, ◌∷◌, eqb, ltb}
use Rattle.rules.specs.declared.types.Attribute.{Attribute}
use Rattle.rules.specs.declared.types.Owner.{Owner}
use Rattle.layout.specs.Columns.{Cols, at, write, write_range, counts, op_operand_first, operand_words, slot_key, slot_kind, slot_content}
use Rattle.layout.specs.Reading.{attribute_count, slots_of, kind_code, slice}
use Rattle.layout.specs.Owners.{count_column, owner_number, key_count}
use Rattle.mutation.specs.declared.attributes.AttributePlace.{AttributePlace}
use Rattle.mutation.specs.declared.attributes.AttributePlace.TheVariants as Places

-- ---- set attribute

-- of so many slots from slot i on, the first whose key is not below this one
unfoldable pub seek : Cols → ℕ → ℕ → ℕ → ℕ
seek C key i zero = i
seek C key i (suc left) = cond (ltb (at C slot_key i) key) (seek C key (suc i) left) i

unfoldable pub slot_for : Cols → Owner → ℕ → ℕ
slot_for C w key = seek C key (slots_of w) (key_count C w)

-- the key stands at that slot already
unfoldable pub key_there : Cols → Owner → ℕ → Bool
key_there C w key = ltb (slot_for C w key) (slots_of w + key_count C w) && eqb (at C slot_key (slot_for C w key)) key

-- where the attribute goes, if no test fails: it replaces the one at the key's slot, or is inserted there
unfoldable pub place_for : Cols → Owner → ℕ → AttributePlace
place_for C w key = cond (key_there C w key) (Places.Replaces (slot_for C w key)) (Places.Adds (slot_for C w key))

-- a word inserted at slot i of a column: the words from there up to slot e move one slot on
unfoldable pub inserted : Cols → ℕ → ℕ → ℕ → ℕ → Cols
inserted C k i e v = write_range C k i (v ∷ slice (C k) i e)

unfoldable pub replaced : Cols → ℕ → Attribute → Cols
replaced C i a = write (write C slot_kind i (kind_code a.kind a.inherent)) slot_content i a.content

unfoldable pub added : Cols → Owner → ℕ → Attribute → Cols
added C w i a =
    write
    (write
    (inserted
    (inserted (inserted C slot_key i (slots_of w + key_count C w) a.key) slot_kind i (slots_of w + key_count C w) (kind_code a.kind a.inherent))
    slot_content i (slots_of w + key_count C w) a.content)
    (count_column w) (owner_number w) (key_count C w + 1))
    counts 6 (attribute_count C + 1)

unfoldable pub with_attribute : Cols → Owner → Attribute → Cols
with_attribute C w a = cond (key_there C w a.key) (replaced C (slot_for C w a.key) a) (added C w (slot_for C w a.key) a)

-- ---- set operand

unfoldable pub with_operand : Cols → ℕ → ℕ → ℕ → Cols
with_operand C n i v = write C operand_words (at C op_operand_first n + i) v
