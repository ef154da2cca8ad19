-- Entries of the journal as words: what each call that sets remembers, and what is written.
use Rattle.std.specs.Prelude.{ℕ, ◌+◌}
use Rattle.rules.specs.declared.types.Owner.{Owner}
use Rattle.layout.specs.Columns.{Cols, at, write, op_operand_first, operand_words, slot_key, slot_kind, slot_content, journal_counts, journal_sort, journal_owner, journal_key, journal_kind, journal_content}
use Rattle.layout.specs.Reading.{owner_code}
use Rattle.layout.specs.MarkedReading.{entry_count}
use Rattle.undo_log.specs.Entries.{words_of, counts_as}
use Rattle.undo_log.specs.declared.entries.Entry.{Entry}
use Rattle.undo_log.specs.declared.entries.EntryWords.{EntryWords}
use Rattle.undo_log.specs.declared.entries.Entry.TheVariants as Entries

-- ---- what is written

-- how many of the entries are replacements
unfoldable pub replaced_count : Cols → ℕ
replaced_count C = at C journal_counts 1

unfoldable pub words_put : Cols → ℕ → EntryWords → Cols
words_put C n e =
    write
    (write
    (write
    (write
    (write C journal_sort n e.sort)
    journal_owner n e.owner)
    journal_key n e.key)
    journal_kind n e.kind)
    journal_content n e.content

-- at the journal's end, and counted
unfoldable pub with_words : Cols → EntryWords → Cols
with_words C e =
    write
    (write (words_put C (entry_count C) e) journal_counts 0 (entry_count C + 1))
    journal_counts 1 (replaced_count C + counts_as e.sort)

-- the same of an entry
abbrev pub with_entry : Cols → Entry → Cols
with_entry C e = with_words C (words_of e)

-- ---- what is remembered

unfoldable pub operand_entry : Cols → ℕ → ℕ → Entry
operand_entry C n i = Entries.OperandWas n i (at C operand_words (at C op_operand_first n + i))

unfoldable pub attribute_entry : Cols → Owner → ℕ → Entry
attribute_entry C w slot = Entries.AttributeWas (owner_code w) (at C slot_key slot) (at C slot_kind slot) (at C slot_content slot)

unfoldable pub key_entry : Owner → ℕ → Entry
key_entry w key = Entries.KeyWasNone (owner_code w) key
