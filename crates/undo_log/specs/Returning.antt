-- What going back to the mark of a row leaves of a lent buffer.
use Rattle.std.specs.Prelude.{ℕ, suc, ◌+◌, true, List, ◌≡◌, take}
use Rattle.layout.specs.Columns.{Cols, columns, at, write, counts, mark_place, journal_counts}
use Rattle.layout.specs.Reading.{store_in}
use Rattle.layout.specs.Soundness.{IsSound}
use Rattle.layout.specs.Journal.{snapshot_of, replaced_in}
use Rattle.layout.specs.MarkedReading.{mark_count, journal_of, row_at, rows_of, journal_holds}
use Rattle.undo_log.specs.MarkWrites.{first_entries}

-- the journal ends at entry n, and only the replacements before it are counted
unfoldable pub forgotten : Cols → ℕ → Cols
forgotten C n = write (write C journal_counts 0 n) journal_counts 1 (replaced_in (first_entries C n))

-- and younger marks are void
unfoldable pub rows_cut : Cols → ℕ → ℕ → Cols
rows_cut C n row = write (forgotten C n) counts 7 (row + 1)

-- the tables are the snapshot of the row, the journal ends at its place, and it is the last row
pub record PutBack (entry exit : List ℕ) (row : ℕ) : Type 0 where
  pub tables : IsSound exit
  pub reads : store_in exit ≡ snapshot_of (store_in entry) (journal_of (columns entry)) (row_at (columns entry) row)
  pub left : journal_of (columns exit) ≡ take (at (columns entry) mark_place row) (journal_of (columns entry))
  pub rows : rows_of (columns exit) ≡ take (suc row) (rows_of (columns entry))
  pub marks : mark_count (columns exit) ≡ row + 1
  pub holds : journal_holds (columns exit) ≡ true
