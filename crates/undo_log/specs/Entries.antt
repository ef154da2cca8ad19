-- An entry as the code has it: its words, what it is read as, and how many replacements it is.
use Rattle.std.specs.Prelude.{ℕ, cond, ltb, List, [], ◌∷◌}
use Rattle.layout.specs.Journal as rules
use Rattle.layout.specs.MarkedReading.{entry_from}
use Rattle.undo_log.specs.declared.entries.Entry.{Entry}
use Rattle.undo_log.specs.declared.entries.EntryWords.{EntryWords}
use Rattle.undo_log.specs.declared.entries.Entry.TheVariants as Entries

-- the words of an entry: its sort, whom it tells of, and how that was
unfoldable pub words_of : Entry → EntryWords
words_of (Entries.OperandWas operation index value) = record { sort = 0; owner = operation; key = index; kind = value; content = 0 }
words_of (Entries.AttributeWas owner key kind content) = record { sort = 1; owner = owner; key = key; kind = kind; content = content }
words_of (Entries.KeyWasNone owner key) = record { sort = 2; owner = owner; key = key; kind = 0; content = 0 }

unfoldable pub listed : EntryWords → List ℕ
listed e = e.sort ∷ e.owner ∷ e.key ∷ e.kind ∷ e.content ∷ []

-- what an entry of the code stands for: what its words are read as
unfoldable pub entry_of : Entry → rules.Entry
unfolding words_of
entry_of e = entry_from (words_of e).sort (words_of e).owner (words_of e).key (words_of e).kind (words_of e).content

-- by its sort: an operand or an attribute as it was is one replacement, a new key none
unfoldable pub counts_as : ℕ → ℕ
counts_as sort = cond (ltb sort 2) 1 0
