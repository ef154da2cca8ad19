-- What the words behind the tables are read as: the journal, and the rows of set marks; and which words hold.
use Rattle.std.specs.Prelude.{ℕ, zero, suc, ◌+◌, ◌*◌, Bool, true, cond, ◌&&◌, List, [], ◌∷◌, ◌≡◌, eqb, leb}
use Rattle.rules.specs.Lists.{every, all_below}
use Rattle.rules.specs.Store.{Store, operand_total, successor_total, attribute_total}
use Rattle.rules.specs.Marks.{MarkedStore, max_marks}
use Rattle.layout.specs.Columns.{Cols, columns, at, counts, op_region_end, op_result_end, block_argument_end, mark_number, mark_place, mark_counts, journal_counts, journal_sort, journal_owner, journal_key, journal_kind, journal_content}
use Rattle.layout.specs.Reading.{tabulate, store_of, owner_from, attribute_read}
use Rattle.layout.specs.Soundness.{sound_buffer}
use Rattle.layout.specs.Journal.{Entry, operand_was, attribute_was, key_was_none, Counts, MarkRow, Journaled, replaced_in, snapshot_of, marked_of, journal_sound}

-- ---- reading

-- sort 0 is an operand, 1 an attribute; any other is a new key
unfoldable pub entry_from : ℕ → ℕ → ℕ → ℕ → ℕ → Entry
entry_from zero owner key kind content = operand_was owner key kind
entry_from (suc zero) owner key kind content = attribute_was (owner_from owner) (attribute_read key kind content)
entry_from (suc (suc n)) owner key kind content = key_was_none (owner_from owner) key

unfoldable pub entry_at : Cols → ℕ → Entry
entry_at C i = entry_from (at C journal_sort i) (at C journal_owner i) (at C journal_key i) (at C journal_kind i) (at C journal_content i)

unfoldable pub mark_count : Cols → ℕ
mark_count C = at C counts 7

unfoldable pub entry_count : Cols → ℕ
entry_count C = at C journal_counts 0

-- without a mark nothing of the journal is read
unfoldable pub journal_of : Cols → List Entry
journal_of C = cond (eqb (mark_count C) 0) [] (tabulate (entry_count C) (entry_at C))

unfoldable pub row_counts : Cols → ℕ → Counts
row_counts C i =
    record {
      ops = at C mark_counts (8 * i);
      blocks = at C mark_counts (8 * i + 1);
      regions = at C mark_counts (8 * i + 2);
      values = at C mark_counts (8 * i + 3);
    }

unfoldable pub row_at : Cols → ℕ → MarkRow
row_at C i = record { number = at C mark_number i; counts = row_counts C i; place = at C mark_place i }

unfoldable pub rows_of : Cols → List MarkRow
rows_of C = tabulate (mark_count C) (row_at C)

unfoldable pub journaled_of : Cols → Journaled
journaled_of C = record { store = store_of C; journal = journal_of C; rows = rows_of C }

-- the rules' marked store that a buffer is read as
abbrev pub marked_in : List ℕ → MarkedStore
marked_in b = marked_of (journaled_of (columns b))

-- ---- which words hold

abbrev pub max_entries : ℕ
max_entries = 2048

-- what stood at a mark has no region, result or argument that came later: so its ranges end within the mark's counts
unfoldable pub ranges_end : Cols → Counts → Bool
ranges_end C k =
    every
    (all_below k.ops (λ (n : ℕ). leb (at C op_region_end n) k.regions && leb (at C op_result_end n) k.values)
    ∷ all_below k.blocks (λ (m : ℕ). leb (at C block_argument_end m) k.values)
    ∷ [])

-- the counts of operands, successors and attributes in a mark's row are those of its snapshot
unfoldable pub totals_kept : Cols → ℕ → Store → Bool
totals_kept C i s =
    every
    (eqb (at C mark_counts (8 * i + 4)) (operand_total s)
    ∷ eqb (at C mark_counts (8 * i + 5)) (successor_total s)
    ∷ eqb (at C mark_counts (8 * i + 6)) (attribute_total s)
    ∷ [])

unfoldable pub row_holds : Cols → ℕ → Bool
row_holds C i = totals_kept C i (snapshot_of (store_of C) (journal_of C) (row_at C i)) && ranges_end C (row_counts C i)

-- without a mark nothing is asked
unfoldable pub journal_holds : Cols → Bool
journal_holds C =
    cond (eqb (mark_count C) 0) true
    (every
    (leb (entry_count C) max_entries
    ∷ eqb (at C journal_counts 1) (replaced_in (journal_of C))
    ∷ all_below (mark_count C) (row_holds C)
    ∷ []))

unfoldable pub marks_hold_in : Cols → Bool
marks_hold_in C = every (leb (mark_count C) max_marks ∷ journal_holds C ∷ journal_sound (journaled_of C) ∷ [])

-- a lent buffer: its tables are sound, and so are those of every mark
unfoldable pub sound_lent : List ℕ → Bool
sound_lent b = sound_buffer b && marks_hold_in (columns b)

-- the same as a fact: what functions ask for that do not test it
abbrev pub IsLent : List ℕ → Type 0
IsLent b = sound_lent b ≡ true
