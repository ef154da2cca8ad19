-- What each step of setting a mark does to what the words stand for: the journal begins, a row goes, a row comes, and what is before the oldest
-- mark goes. Assumes nothing.
use Prim.Native.Nat.{ℕ, suc, ◌+◌, ◌*◌, ◌-◌, ◌<◌, ◌≤◌}
use native.Mathlib.Omega.{arith}
use mathlib.Core.List.{List, [], ◌∷◌, ◌++◌}
use mathlib.Core.Path.{◌≡◌, refl, sym, ap, ◌∙◌}
use lib.ListN.{length, take, drop}
use lib.Seq.{get_or-set_same, get_or-set_other}
use Rattle.layout.specs.Columns.{Cols, at, column_size, write, write_range, counts, mark_number, mark_place, mark_counts, journal_counts}
use Rattle.layout.specs.Reading.{tabulate, op_count, block_count, region_count, value_count, operand_count, successor_count, attribute_count}
use Rattle.layout.proofs.Laid.{Shaped}
use Rattle.layout.proofs.Buffer.{write_shaped, write_range_shaped}
use Rattle.layout.proofs.Scans.{slice_length}
use Rattle.layout.proofs.Tabulate.{ops_length, blocks_length, regions_length, values_length}
use Rattle.layout.specs.Journal.{Entry, counts_of}
use Rattle.layout.specs.MarkedReading.{entry_at, mark_count, entry_count, row_counts, row_at}
use Rattle.undo_log.specs.MarkWrites.{copied, row_taken, row_added}
use Rattle.undo_log.proofs.Tables.{TablesKept, kept_then, kept_write, kept_range, kept_count}
use Rattle.undo_log.proofs.Listed.{remove_tabulate, more_tabulate}
use Rattle.undo_log.proofs.Standing.{Full, full_at, fulls_of, entries_of, new_full, Stands, entries_stand, full_is, copied_before, copied_there}

-- ---- what writing behind the tables keeps

-- the columns of a store that has its lengths, and the tables of B
abbrev pub Kept : Cols → Cols → Type 0
Kept B C = Shaped C × TablesKept B C

pub kept_word : (B C : Cols) (k n v : ℕ) → mark_number ≤ k → Kept B C → Kept B (write C k n v)
kept_word B C k n v h g = (write_shaped C k n v g.0, kept_then B C _ g.1 (kept_write C g.0 k n v h))

pub kept_number : (B C : Cols) (v : ℕ) → Kept B C → Kept B (write C counts 7 v)
kept_number B C v g = (write_shaped C counts 7 v g.0, kept_then B C _ g.1 (kept_count C g.0 v))

pub kept_run : (B C : Cols) (k n : ℕ) (vs : List ℕ) → mark_number ≤ k → n + length vs ≤ column_size k → Kept B C → Kept B (write_range C k n vs)
kept_run B C k n vs h fits g = (write_range_shaped C k n vs g.0 fits, kept_then B C _ g.1 (kept_range C g.0 k n vs h fits))

pub kept_copy : (B C : Cols) (k n j a e : ℕ) → mark_number ≤ k → e ≤ column_size j → n + (e - a) ≤ column_size k → Kept B C → Kept B (copied C k n j a e)
unfolding copied
kept_copy B C k n j a e h from fits g = kept_run B C k n _ h (omega (arith, slice_length (C j) a e (omega (arith, g.0 j)))) g

-- ---- a row goes

module _ (B C : Cols) (fulls : List Full) (journal : List Entry) (g : Stands B C fulls journal) (few : mark_count C ≤ 8) (i : ℕ) (l : i < mark_count C) where
  taken_before : (m : ℕ) → m < i → full_at (row_taken C i) m ≡ full_at C m
  unfolding full_at row_at row_counts row_taken copied write write_range at
  taken_before m h =
      full_is (row_taken C i) m C mark_counts (8 * m) _ _
      (copied_before (C mark_number) i (C mark_number) (i + 1) (mark_count C) (omega (arith, g.shaped mark_number)) (omega (arith, g.shaped mark_number)) m h)
      (copied_before (C mark_place) i (C mark_place) (i + 1) (mark_count C) (omega (arith, g.shaped mark_place)) (omega (arith, g.shaped mark_place)) m h)
      (λ d z. copied_before (C mark_counts) (8 * i) (C mark_counts) (8 * i + 8) (8 * mark_count C) (omega (arith, g.shaped mark_counts)) (omega (arith, g.shaped mark_counts)) (8 * m + d) (omega arith))

  taken_behind : (m : ℕ) → i ≤ m → m + 1 < mark_count C → full_at (row_taken C i) m ≡ full_at C (m + 1)
  unfolding full_at row_at row_counts row_taken copied write write_range at
  taken_behind m low high =
      full_is (row_taken C i) m C mark_counts (8 * (m + 1)) _ _
      (copied_there (C mark_number) i (C mark_number) (i + 1) (mark_count C) (omega (arith, g.shaped mark_number)) (omega (arith, g.shaped mark_number)) m (m + 1) low (omega arith) high)
      (copied_there (C mark_place) i (C mark_place) (i + 1) (mark_count C) (omega (arith, g.shaped mark_place)) (omega (arith, g.shaped mark_place)) m (m + 1) low (omega arith) high)
      (λ d z. copied_there (C mark_counts) (8 * i) (C mark_counts) (8 * i + 8) (8 * mark_count C) (omega (arith, g.shaped mark_counts)) (omega (arith, g.shaped mark_counts)) (8 * m + d) (8 * (m + 1) + d)
      (omega arith) (omega arith) (omega arith))

  taken_kept : Kept B (row_taken C i)
  unfolding row_taken
  taken_kept =
      kept_number B _ (mark_count C - 1)
      (kept_copy B _ mark_counts (8 * i) mark_counts (8 * i + 8) (8 * mark_count C) (omega arith) (omega arith) (omega arith)
      (kept_copy B _ mark_place i mark_place (i + 1) (mark_count C) (omega arith) (omega arith) (omega arith)
      (kept_copy B C mark_number i mark_number (i + 1) (mark_count C) (omega arith) (omega arith) (omega arith) (g.shaped, g.kept))))

  taken_count : mark_count (row_taken C i) ≡ mark_count C - 1
  unfolding mark_count row_taken copied write write_range at
  taken_count = get_or-set_same (C counts) 7 (mark_count C - 1) 0 (omega (arith, g.shaped counts))

  taken_entries : entries_of (row_taken C i) ≡ entries_of C
  unfolding entries_of entry_count entry_at row_taken copied write write_range at
  taken_entries = refl

  taken_counted : at (row_taken C i) journal_counts 1 ≡ at C journal_counts 1
  unfolding row_taken copied write write_range at
  taken_counted = refl

  pub taken_stands : Stands B (row_taken C i) (take i fulls ++ drop (suc i) fulls) journal
  unfolding fulls_of
  taken_stands =
      record {
        shaped = taken_kept.0;
        kept = taken_kept.1;
        rows =
            ap (λ (n : ℕ). tabulate n (full_at (row_taken C i))) taken_count
            ∙ remove_tabulate (mark_count C) i (full_at C) (full_at (row_taken C i)) l taken_before taken_behind
            ∙ ap (λ (fs : List Full). take i fs ++ drop (suc i) fs) g.rows;
        entries = taken_entries ∙ g.entries;
        counted = taken_counted ∙ g.counted;
      }

-- ---- a row comes

module _ (B C : Cols) (fulls : List Full) (journal : List Entry) (g : Stands B C fulls journal) (few : mark_count C < 8) (k : ℕ) where
  added_before : (m : ℕ) → m < mark_count C → full_at (row_added C k) m ≡ full_at C m
  unfolding full_at row_at row_counts row_added copied write write_range at
  added_before m h =
      full_is (row_added C k) m C mark_counts (8 * m) _ _
      (get_or-set_other (C mark_number) (mark_count C) m k 0 (λ e. omega arith))
      (get_or-set_other (C mark_place) (mark_count C) m (entry_count C) 0 (λ e. omega arith))
      (λ d z. copied_before (C mark_counts) (8 * mark_count C) (C counts) 0 7 (omega (arith, g.shaped counts)) (omega (arith, g.shaped mark_counts)) (8 * m + d) (omega arith))

  -- the counts are those of the tables
  counts_stand : (i : ℕ) → i < 7 → at C counts i ≡ at B counts i
  counts_stand = g.kept.counts_same

  added_last : full_at (row_added C k) (mark_count C) ≡ new_full B k (length journal)
  unfolding row_added copied write write_range at counts_of op_count block_count region_count value_count operand_count successor_count attribute_count
  added_last =
      full_is (row_added C k) (mark_count C) C counts 0 k (length journal)
      (get_or-set_same (C mark_number) (mark_count C) k 0 (omega (arith, g.shaped mark_number)))
      (get_or-set_same (C mark_place) (mark_count C) (entry_count C) 0 (omega (arith, g.shaped mark_place)) ∙ entries_stand g)
      (λ d z. copied_there (C mark_counts) (8 * mark_count C) (C counts) 0 7 (omega (arith, g.shaped counts)) (omega (arith, g.shaped mark_counts)) (8 * mark_count C + d) (0 + d)
      (omega arith) (omega arith) (omega arith))
      ∙ λ t. record {
        row =
            record {
              number = k;
              counts =
                  record {
                    ops = (counts_stand 0 (omega arith) ∙ sym (ops_length B)) t;
                    blocks = (counts_stand 1 (omega arith) ∙ sym (blocks_length B)) t;
                    regions = (counts_stand 2 (omega arith) ∙ sym (regions_length B)) t;
                    values = (counts_stand 3 (omega arith) ∙ sym (values_length B)) t;
                  };
              place = length journal;
            };
        operands = counts_stand 4 (omega arith) t;
        successors = counts_stand 5 (omega arith) t;
        attributes = counts_stand 6 (omega arith) t;
      }

  added_kept : Kept B (row_added C k)
  unfolding row_added
  added_kept =
      kept_number B _ (mark_count C + 1)
      (kept_copy B _ mark_counts (8 * mark_count C) counts 0 7 (omega arith) (omega arith) (omega arith)
      (kept_word B _ mark_place (mark_count C) (entry_count C) (omega arith) (kept_word B C mark_number (mark_count C) k (omega arith) (g.shaped, g.kept))))

  added_count : mark_count (row_added C k) ≡ mark_count C + 1
  unfolding mark_count row_added copied write write_range at
  added_count = get_or-set_same (C counts) 7 (mark_count C + 1) 0 (omega (arith, g.shaped counts))

  added_entries : entries_of (row_added C k) ≡ entries_of C
  unfolding entries_of entry_count entry_at row_added copied write write_range at
  added_entries = refl

  added_counted : at (row_added C k) journal_counts 1 ≡ at C journal_counts 1
  unfolding row_added copied write write_range at
  added_counted = refl

  pub added_stands : Stands B (row_added C k) (fulls ++ (new_full B k (length journal) ∷ [])) journal
  unfolding fulls_of
  added_stands =
      record {
        shaped = added_kept.0;
        kept = added_kept.1;
        rows =
            ap (λ (n : ℕ). tabulate n (full_at (row_added C k))) added_count
            ∙ more_tabulate (mark_count C) (full_at C) (full_at (row_added C k)) (new_full B k (length journal)) added_before added_last
            ∙ ap (λ (fs : List Full). fs ++ (new_full B k (length journal) ∷ [])) g.rows;
        entries = added_entries ∙ g.entries;
        counted = added_counted ∙ g.counted;
      }
