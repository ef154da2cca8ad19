-- What is asked of a lent buffer's marks: of its words alone, and of each row, from the youngest to the oldest, where the tables have come
-- back to the row after it.
use Rattle.std.specs.Prelude.{ℕ, Bool, true, ◌&&◌, List, [], ◌∷◌, ◌≡◌, eqb, leb, drop}
use Rattle.rules.specs.Lists.{every, all_below}
use Rattle.rules.specs.Store.{Store, sound}
use Rattle.rules.specs.Marks.{max_marks, max_remembered}
use Rattle.layout.specs.Columns.{Cols, columns, at, mark_number, mark_place, journal_counts}
use Rattle.layout.specs.Reading.{tabulate, store_of}
use Rattle.layout.specs.Soundness.{IsSound}
use Rattle.mutation.specs.Doing.{Behind}
use Rattle.layout.specs.Journal.{Entry, counts_of, counts_within, cut_to, undone_all, undoable_all, replaced_in, journal_sound}
use Rattle.layout.specs.MarkedReading.{mark_count, entry_count, entry_at, row_counts, journaled_of, max_entries, totals_kept, ranges_end, row_holds}
use Rattle.undo_log.specs.MarkWrites.{first_entries, row_of}

-- ---- the words alone

-- no more marks and entries than there is room for, and the replacements are counted and few
unfoldable pub words_hold : Cols → Bool
words_hold C =
    every
    (leb (mark_count C) max_marks
    ∷ leb (entry_count C) max_entries
    ∷ eqb (at C journal_counts 1) (replaced_in (first_entries C (entry_count C)))
    ∷ leb (replaced_in (first_entries C (entry_count C))) max_remembered
    ∷ [])

-- ---- one row

-- the row has the number of a mark that no row before it has, and its place and counts are within these of the row after it
unfoldable pub row_fits : Cols → ℕ → ℕ → Bool
row_fits D i end =
    every
    (leb 1 (at D mark_number i)
    ∷ leb (at D mark_number i) max_marks
    ∷ eqb (row_of D (at D mark_number i)) i
    ∷ leb (at D mark_place i) end
    ∷ counts_within (row_counts D i) (counts_of (store_of D))
    ∷ [])

-- the entries between the row and the one after it
unfoldable pub entries_between : Cols → ℕ → ℕ → List Entry
entries_between D i end = drop (at D mark_place i) (tabulate end (entry_at D))

-- the tables as they stood at the row
unfoldable pub tables_at : Cols → ℕ → ℕ → Store
tables_at D i end = cut_to (row_counts D i) (undone_all (entries_between D i end) (store_of D))

unfoldable pub step_holds : Cols → ℕ → ℕ → Bool
step_holds D i end =
    every
    (row_fits D i end
    ∷ undoable_all (entries_between D i end) (store_of D)
    ∷ sound (tables_at D i end)
    ∷ totals_kept D i (tables_at D i end)
    ∷ ranges_end D (row_counts D i)
    ∷ [])

-- the tables have come back to the row, if that can be done, and marks rest on what they rested on
pub record CameBack (entry exit : List ℕ) (i end : ℕ) (q : Bool) : Type 0 where
  pub told : q ≡ step_holds (columns entry) i end
  pub reads : q ≡ true → store_of (columns exit) ≡ tables_at (columns entry) i end
  pub sound : q ≡ true → IsSound exit
  pub behind : q ≡ true → Behind (columns exit) (columns entry)

-- ---- all rows

unfoldable pub rows_hold_in : Cols → Bool
rows_hold_in C = journal_sound (journaled_of C) && all_below (mark_count C) (row_holds C)
