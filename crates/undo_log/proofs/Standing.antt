-- What the words behind the tables stand for while a call on marks writes them: rows of marks with all of their counts, and the entries of the
-- journal. Assumes nothing.
use Prim.Native.Nat.{ℕ, ◌+◌, ◌*◌, ◌-◌, ◌<◌, ◌≤◌}
use native.Mathlib.Nat.{add-zero}
use native.Mathlib.Omega.{arith}
use mathlib.Core.List.{List, map}
use mathlib.Core.Path.{◌≡◌, refl, sym, ap, ◌∙◌}
use lib.ListN.{length, get_or}
use Rattle.layout.specs.Columns.{Cols, at, pasted, mark_number, mark_place, mark_counts, journal_counts}
use Rattle.layout.specs.Reading.{tabulate, slice, operand_count, successor_count, attribute_count, store_of}
use Rattle.layout.proofs.Laid.{Shaped}
use Rattle.layout.proofs.Scans.{slice_length, slice_at}
use Rattle.layout.proofs.Pasted.{pasted_old, pasted_new}
use Rattle.layout.proofs.Tabulate.{length_tabulate, get_d_tabulate}
use Rattle.layout.specs.Journal.{Entry, counts_of, replaced_in, MarkRow, placed_back}
use Rattle.layout.specs.MarkedReading.{entry_at, mark_count, entry_count, row_counts, row_at, rows_of}
use Rattle.undo_log.proofs.Tables.{TablesKept}
use Rattle.undo_log.proofs.Listed.{map_tabulate}

-- a row, with the counts of operands, successors and attributes
pub record Full : Type 0 where
  pub row : MarkRow
  pub operands : ℕ
  pub successors : ℕ
  pub attributes : ℕ

unfoldable pub full_at : Cols → ℕ → Full
full_at C i =
    record {
      row = row_at C i;
      operands = at C mark_counts (8 * i + 4);
      successors = at C mark_counts (8 * i + 5);
      attributes = at C mark_counts (8 * i + 6);
    }

unfoldable pub fulls_of : Cols → List Full
fulls_of C = tabulate (mark_count C) (full_at C)

unfoldable pub entries_of : Cols → List Entry
entries_of C = tabulate (entry_count C) (entry_at C)

abbrev pub row_in : Full → MarkRow
row_in f = f.row

pub rows_fulls : (C : Cols) → rows_of C ≡ map row_in (fulls_of C)
unfolding rows_of fulls_of full_at
rows_fulls C = map_tabulate row_in (mark_count C) (full_at C) (row_at C) (λ i l. refl)

-- the present as a row
abbrev pub new_full : Cols → ℕ → ℕ → Full
new_full B k n =
    record {
      row = record { number = k; counts = counts_of (store_of B); place = n };
      operands = operand_count B;
      successors = successor_count B;
      attributes = attribute_count B;
    }

abbrev pub full_back : ℕ → Full → Full
full_back n f = record { row = placed_back n f.row; operands = f.operands; successors = f.successors; attributes = f.attributes }

-- C has the tables of B, and behind them these rows and this journal
pub record Stands (B C : Cols) (fulls : List Full) (journal : List Entry) : Type 0 where
  pub shaped : Shaped C
  pub kept : TablesKept B C
  pub rows : fulls_of C ≡ fulls
  pub entries : entries_of C ≡ journal
  pub counted : at C journal_counts 1 ≡ replaced_in journal

module _ {B C : Cols} {fulls : List Full} {journal : List Entry} (g : Stands B C fulls journal) where
  pub marks_stand : mark_count C ≡ length fulls
  unfolding fulls_of
  marks_stand = sym (length_tabulate (mark_count C) (full_at C)) ∙ ap length g.rows

  pub entries_stand : entry_count C ≡ length journal
  unfolding entries_of
  entries_stand = sym (length_tabulate (entry_count C) (entry_at C)) ∙ ap length g.entries

  pub full_stands : (i : ℕ) (d : Full) → i < mark_count C → full_at C i ≡ get_or fulls i d
  unfolding fulls_of
  full_stands i d l = sym (get_d_tabulate (mark_count C) (full_at C) i d l) ∙ ap (λ (fs : List Full). get_or fs i d) g.rows

  pub rows_stand : rows_of C ≡ map row_in fulls
  rows_stand = rows_fulls C ∙ ap (map row_in) g.rows

-- ---- a row, word by word

full_words : (C : Cols) (i : ℕ) (f : Full) → at C mark_number i ≡ f.row.number → at C mark_place i ≡ f.row.place
    → at C mark_counts (8 * i) ≡ f.row.counts.ops → at C mark_counts (8 * i + 1) ≡ f.row.counts.blocks
    → at C mark_counts (8 * i + 2) ≡ f.row.counts.regions → at C mark_counts (8 * i + 3) ≡ f.row.counts.values
    → at C mark_counts (8 * i + 4) ≡ f.operands → at C mark_counts (8 * i + 5) ≡ f.successors → at C mark_counts (8 * i + 6) ≡ f.attributes → full_at C i ≡ f
unfolding full_at row_at row_counts
full_words C i f p q a b c d x y z =
    λ t. record {
      row = record { number = p t; counts = record { ops = a t; blocks = b t; regions = c t; values = d t }; place = q t };
      operands = x t;
      successors = y t;
      attributes = z t;
    }

-- a row with words of its counts as they stand from word w on in other columns
pub full_is : (C : Cols) (i : ℕ) (D : Cols) (k w number place : ℕ) → at C mark_number i ≡ number → at C mark_place i ≡ place
    → ((d : ℕ) → d < 7 → at C mark_counts (8 * i + d) ≡ at D k (w + d))
    → full_at C i
    ≡ record {
      row = record { number = number; counts = record { ops = at D k w; blocks = at D k (w + 1); regions = at D k (w + 2); values = at D k (w + 3) }; place = place };
      operands = at D k (w + 4);
      successors = at D k (w + 5);
      attributes = at D k (w + 6);
    }
full_is C i D k w number place p q h =
    full_words C i _ p q (ap (at C mark_counts) (sym (add-zero (8 * i))) ∙ h 0 (omega arith) ∙ ap (at D k) (add-zero w)) (h 1 (omega arith)) (h 2 (omega arith)) (h 3 (omega arith))
    (h 4 (omega arith)) (h 5 (omega arith)) (h 6 (omega arith))

-- ---- words that were copied

module _ (xs : List ℕ) (n : ℕ) (ys : List ℕ) (a e : ℕ) (from : e ≤ length ys) (fits : n + (e - a) ≤ length xs) where
  long : length (slice ys a e) ≡ e - a
  long = slice_length ys a e from

  pub copied_before : (i : ℕ) → i < n → get_or (pasted xs n (slice ys a e)) i 0 ≡ get_or xs i 0
  copied_before = pasted_old xs n (slice ys a e) (omega (arith, long))

  pub copied_there : (i j : ℕ) → n ≤ i → i + a ≡ j + n → j < e → get_or (pasted xs n (slice ys a e)) i 0 ≡ get_or ys j 0
  copied_there i j low same high =
      let u : n + (i - n) ≡ i = omega arith in
      let v : a + (i - n) ≡ j = omega arith in
      ap (λ (m : ℕ). get_or (pasted xs n (slice ys a e)) m 0) (sym u) ∙ pasted_new xs n (slice ys a e) (omega (arith, long)) (i - n) (omega (arith, long))
      ∙ slice_at ys a e (i - n) (omega arith) ∙ ap (λ (m : ℕ). get_or ys m 0) v
