-- What an accepted call that sets a mark writes, column by column.
use Rattle.std.specs.Prelude.{ℕ, suc, ◌+◌, ◌*◌, ◌-◌, ◌≤◌, ◌<◌, cond, List, [], ◌∷◌, eqb, ltb, Option, Some, None}
use Rattle.rules.specs.Marks.{max_remembered}
use Rattle.layout.specs.Columns.{Cols, at, write, write_range, counts, mark_number, mark_place, mark_counts, journal_counts, journal_sort, journal_owner, journal_key, journal_kind, journal_content}
use Rattle.layout.specs.Reading.{tabulate, slice}
use Rattle.layout.specs.Journal.{Entry, MarkRow, row_has_number, replaced_in}
use Rattle.layout.specs.MarkedReading.{entry_at, mark_count, entry_count, rows_of}

-- the words of column j from a up to e, written over those of column k from n on
unfoldable pub copied : Cols → ℕ → ℕ → ℕ → ℕ → ℕ → Cols
copied C k n j a e = write_range C k n (slice (C j) a e)

-- ---- rows of set marks

-- the place of the first row of this number; how many rows there are where there is none
unfoldable pub place_in : ℕ → List MarkRow → ℕ
place_in k [] = 0
place_in k (r ∷ rs) = cond (row_has_number k r) 0 (suc (place_in k rs))

-- the place of a mark's row
abbrev pub row_of : Cols → ℕ → ℕ
row_of C k = place_in k (rows_of C)

-- the mark's row, if it is set
unfoldable pub row_found : Cols → ℕ → Option ℕ
row_found C k = cond (ltb (row_of C k) (mark_count C)) (Some (row_of C k)) None

-- row i goes: those behind it move one down
unfoldable pub row_taken : Cols → ℕ → Cols
row_taken C i =
    write
    (copied
    (copied (copied C mark_number i mark_number (i + 1) (mark_count C)) mark_place i mark_place (i + 1) (mark_count C))
    mark_counts (8 * i) mark_counts (8 * i + 8) (8 * mark_count C))
    counts 7 (mark_count C - 1)

-- the mark's row goes, if it is set
unfoldable pub mark_taken : Cols → ℕ → Cols
mark_taken C k = cond (ltb (row_of C k) (mark_count C)) (row_taken C (row_of C k)) C

-- a row comes that names the present: the counts as they are, and a place behind the whole journal
unfoldable pub row_added : Cols → ℕ → Cols
row_added C k =
    write
    (copied (write (write C mark_number (mark_count C) k) mark_place (mark_count C) (entry_count C)) mark_counts (8 * mark_count C) counts 0 7)
    counts 7 (mark_count C + 1)

-- ---- the journal

-- without a mark the journal's words may be anything: it begins with no entry
unfoldable pub begun : Cols → Cols
begun C = cond (eqb (mark_count C) 0) (write (write C journal_counts 0 0) journal_counts 1 0) C

-- the first n entries
unfoldable pub first_entries : Cols → ℕ → List Entry
first_entries C n = tabulate n (entry_at C)

-- the entries from n on move to the journal's beginning
unfoldable pub entries_back : Cols → ℕ → Cols
entries_back C n =
    copied
    (copied
    (copied
    (copied (copied C journal_sort 0 journal_sort n (entry_count C)) journal_owner 0 journal_owner n (entry_count C))
    journal_key 0 journal_key n (entry_count C))
    journal_kind 0 journal_kind n (entry_count C))
    journal_content 0 journal_content n (entry_count C)

-- each mark's place falls by n
unfoldable pub places_back : Cols → ℕ → Cols
places_back C n = write_range C mark_place 0 (tabulate (mark_count C) (λ (i : ℕ). at C mark_place i - n))

-- the journal before entry n goes
unfoldable pub freed_before : Cols → ℕ → Cols
freed_before C n =
    write
    (write (places_back (entries_back C n) n) journal_counts 0 (entry_count C - n))
    journal_counts 1 (at C journal_counts 1 - replaced_in (first_entries C n))

-- what is before the oldest mark goes
unfoldable pub freed_words : Cols → Cols
freed_words C = cond (eqb (at C mark_place 0) 0) C (freed_before C (at C mark_place 0))

-- each mark is set at entry n or later
abbrev pub SetFrom : Cols → ℕ → Type 0
SetFrom C n = (i : ℕ) → i < mark_count C → n ≤ at C mark_place i

-- the journal before entry n can go: no mark needs it, and it has no more replacements than are counted
pub record Freeable (C : Cols) (n : ℕ) : Type 0 where
  pub few : mark_count C ≤ 8
  pub short : entry_count C ≤ 2048
  pub within : n ≤ entry_count C
  pub later : SetFrom C n
  pub counted : replaced_in (first_entries C n) ≤ at C journal_counts 1
  pub most : at C journal_counts 1 ≤ max_remembered

-- ---- the whole

unfoldable pub with_mark : Cols → ℕ → Cols
with_mark C k = freed_words (row_added (mark_taken (begun C) k) k)
