-- What is left once the journal behind a mark is undone, the tables are cut and the rest is forgotten: the mark's snapshot, the journal up to
-- its place, and the rows up to its own, which hold as they did. Assumes nothing.
use Prim.Native.Nat.{ℕ, suc, ◌+◌, ◌<◌, ◌≤◌}
use native.Mathlib.Omega.{arith}
use mathlib.Core.Bool.{Bool, true, false, cond}
use mathlib.Core.List.{List, [], Memᴰ}
use mathlib.Core.Path.{◌≡◌, refl, sym, ap, ap₂, subst, ◌∙◌}
use borrow.Author.Tests.{ne_eqb}
use lib.Dec.{eqb}
use lib.ListN.{length, get_or, take}
use lib.Seq.{get_or-set_same, get_or-set_other}
use Rattle.rules.specs.Store.{Store}
use Rattle.layout.specs.Columns.{Cols, columns, at, write, counts, block_next, mark_number, mark_place, mark_counts, journal_counts, journal_sort, journal_owner, journal_key, journal_kind, journal_content}
use Rattle.layout.specs.Reading.{tabulate, store_of, store_in}
use Rattle.layout.specs.Soundness.{IsSound, sound_buffer}
use Rattle.layout.proofs.Laid.{Shaped}
use Rattle.layout.proofs.Buffer.{columns_shaped, write_at, write_other, write_shaped}
use Rattle.layout.proofs.Tabulate.{tabulate_cong}
use Rattle.layout.proofs.Empty.{sound_facts}
use Rattle.layout.specs.Journal.{Entry, counts_of, counts_within, no_counts, cut_to, replaced_in, MarkRow, snapshot_of}
use Rattle.layout.specs.MarkedReading.{mark_count, entry_count, entry_at, journal_of, row_counts, row_at, rows_of, journaled_of, ranges_end}
use Rattle.undo_log.proofs.MarkRows.{row_at_lem}
use Rattle.undo_log.proofs.ReadBack.{back_snapshot}
use Rattle.rules.proofs.Basics.Appended.{mem_get_d}
use Rattle.undo_log.specs.CutBack.{MarksKept, back_sound}
use Rattle.undo_log.specs.Undoing.{UndidAll}
use Rattle.undo_log.specs.MarkWrites.{first_entries}
use Rattle.undo_log.proofs.Lent.{Lent}
use Rattle.undo_log.proofs.Listed.{first_tabulate}
use Rattle.undo_log.proofs.Tables.{TablesKept, kept_write, kept_count, kept_then, store_kept, ranges_kept, sound_kept}
use Rattle.undo_log.proofs.Standing.{full_at, row_in}
use Rattle.undo_log.proofs.Holding.{holds_of, FullHolds, full_facts, full_of}
use Rattle.undo_log.proofs.HeldRows.{held_as}
use Rattle.undo_log.specs.Returning.{forgotten, rows_cut, PutBack}
use Rattle.undo_log.proofs.Words.{full_same, entry_same, ranges_same, ranges_behind}
use Rattle.undo_log.proofs.BackRows.{rising_two}
use Rattle.undo_log.proofs.UndoneToMark.{behind, f, words, journal_is, row_is, rows_long, between, place_fits, then, cut_reads, cut_sound_lem}

-- ---- what is written last

module _ (T : Cols) (shaped : Shaped T) (n row : ℕ) where
  abbrev E₀ : Cols
  E₀ = write T journal_counts 0 n

  abbrev v : ℕ
  v = replaced_in (first_entries T n)

  pub written_kept : TablesKept T (rows_cut T n row)
  unfolding rows_cut forgotten
  written_kept =
      let s₀ = write_shaped T journal_counts 0 n shaped in
      let s₁ = write_shaped E₀ journal_counts 1 v s₀ in
      kept_then T (forgotten T n) (rows_cut T n row)
      (kept_then T E₀ (forgotten T n) (kept_write T shaped journal_counts 0 n (omega arith)) (kept_write E₀ s₀ journal_counts 1 v (omega arith)))
      (kept_count (forgotten T n) s₁ (row + 1))

  pub written_other : (k : ℕ) → block_next < k → eqb k journal_counts ≡ false → rows_cut T n row k ≡ T k
  unfolding rows_cut forgotten
  written_other k l e =
      write_other (forgotten T n) counts 7 (row + 1) k (ne_eqb k counts (λ z. omega arith)) ∙ write_other E₀ journal_counts 1 v k e ∙ write_other T journal_counts 0 n k e

  pub written_marks : mark_count (rows_cut T n row) ≡ row + 1
  unfolding rows_cut forgotten mark_count at
  written_marks =
      ap (λ (xs : List ℕ). get_or xs 7 0) (write_at (forgotten T n) counts 7 (row + 1))
      ∙ get_or-set_same (forgotten T n counts) 7 (row + 1) 0 (let z : length (forgotten T n counts) ≡ 8 = write_shaped E₀ journal_counts 1 v (write_shaped T journal_counts 0 n shaped) counts in omega arith)

  pub written_entries : entry_count (rows_cut T n row) ≡ n
  unfolding rows_cut forgotten entry_count at
  written_entries =
      ap (λ (xs : List ℕ). get_or xs 0 0) (write_other (forgotten T n) counts 7 (row + 1) journal_counts refl ∙ write_at E₀ journal_counts 1 v)
      ∙ get_or-set_other (E₀ journal_counts) 1 0 v 0 (λ e. omega arith)
      ∙ ap (λ (xs : List ℕ). get_or xs 0 0) (write_at T journal_counts 0 n)
      ∙ get_or-set_same (T journal_counts) 0 n 0 (let z : length (T journal_counts) ≡ 8 = shaped journal_counts in omega arith)

  pub written_replaced : at (rows_cut T n row) journal_counts 1 ≡ replaced_in (first_entries T n)
  unfolding rows_cut forgotten at
  written_replaced =
      ap (λ (xs : List ℕ). get_or xs 1 0) (write_other (forgotten T n) counts 7 (row + 1) journal_counts refl ∙ write_at E₀ journal_counts 1 v)
      ∙ get_or-set_same (E₀ journal_counts) 1 v 0 (let z : length (E₀ journal_counts) ≡ 8 = write_shaped T journal_counts 0 n shaped journal_counts in omega arith)

-- ---- all of it

module _
    (b : List ℕ)
    (h : Lent b)
    (row : ℕ)
    (set : row < mark_count (columns b))
    (u : List ℕ)
    (q : Bool)
    (d : UndidAll b u (behind b h row set) q)
    (t : List ℕ)
    (cut : store_in t ≡ cut_to (row_counts (columns u) row) (store_in u))
    (cut_sound : sound_buffer t ≡ back_sound (columns u) row)
    (kept : MarksKept (columns u) (columns t))
    (exit : List ℕ)
    (long : length exit ≡ length b)
    (written : columns exit ≡ rows_cut (columns t) (at (columns b) mark_place row) row) where
  abbrev B : Cols
  B = columns b

  abbrev T : Cols
  T = columns t

  abbrev E : Cols
  E = columns exit

  abbrev n : ℕ
  n = at B mark_place row

  tables : IsSound t
  tables = sound_facts t (cut_sound ∙ cut_sound_lem b h row set u q d)

  shaped : Shaped T
  shaped = columns_shaped t tables.sized

  tables_kept : TablesKept T E
  tables_kept = subst (TablesKept T) (sym written) (written_kept T shaped n row)

  reads : store_of E ≡ then b h row set
  reads = store_kept T E tables_kept ∙ cut ∙ cut_reads b h row set u q d

  -- ---- the words behind the tables

  marks : mark_count E ≡ row + 1
  marks = ap mark_count written ∙ written_marks T shaped n row

  entries : entry_count E ≡ n
  entries = ap entry_count written ∙ written_entries T shaped n row

  cut_word : (k : ℕ) → block_next < k → T k ≡ B k
  cut_word k l = kept.words k l ∙ d.behind.words k l

  word : (k : ℕ) → block_next < k → eqb k journal_counts ≡ false → E k ≡ B k
  word k l e = ap (λ (X : Cols). X k) written ∙ written_other T shaped n row k l e ∙ cut_word k l

  full : (i : ℕ) → full_at E i ≡ full_at B i
  full = full_same B E (word mark_number (omega arith) refl) (word mark_place (omega arith) refl) (word mark_counts (omega arith) refl)

  entry : (i : ℕ) → entry_at E i ≡ entry_at B i
  entry =
      entry_same B E (word journal_sort (omega arith) refl) (word journal_owner (omega arith) refl) (word journal_key (omega arith) refl) (word journal_kind (omega arith) refl)
      (word journal_content (omega arith) refl)

  entry_cut : (i : ℕ) → entry_at T i ≡ entry_at B i
  entry_cut =
      entry_same B T (cut_word journal_sort (omega arith)) (cut_word journal_owner (omega arith)) (cut_word journal_key (omega arith)) (cut_word journal_kind (omega arith))
      (cut_word journal_content (omega arith))

  first_left : tabulate n (entry_at B) ≡ take n (journal_of B)
  first_left = first_tabulate (entry_count B) n (entry_at B) (place_fits b h row set) ∙ ap (take n) (sym (journal_is b h row set))

  left : journal_of E ≡ take n (journal_of B)
  unfolding journal_of
  left =
      ap (λ (x : Bool). cond x [] (tabulate (entry_count E) (entry_at E))) (ne_eqb (mark_count E) 0 (λ e. omega (arith, marks)))
      ∙ ap (λ (m : ℕ). tabulate m (entry_at E)) entries
      ∙ tabulate_cong n (entry_at E) (entry_at B) (λ i l. entry i)
      ∙ first_left

  rows : rows_of E ≡ take (suc row) (rows_of B)
  unfolding rows_of full_at
  rows =
      let e : row + 1 ≡ suc row = omega arith in
      ap (λ (m : ℕ). tabulate m (row_at E)) (marks ∙ e)
      ∙ tabulate_cong (suc row) (row_at E) (row_at B) (λ i l. ap row_in (full i))
      ∙ first_tabulate (mark_count B) (suc row) (row_at B) (omega arith)

  counted : at E journal_counts 1 ≡ replaced_in (journal_of E)
  unfolding first_entries
  counted =
      ap (λ (X : Cols). at X journal_counts 1) written ∙ written_replaced T shaped n row
      ∙ ap replaced_in (tabulate_cong n (entry_at T) (entry_at B) (λ i l. entry_cut i) ∙ first_left ∙ sym left)

  -- ---- each row that stays

  older : (i : ℕ) → i ≤ row → ((row_at B i).place ≤ (row_at B row).place) × (counts_within (row_at B i).counts (row_at B row).counts ≡ true)
  unfolding journaled_of
  older i l =
      let z = rising_two 0 no_counts (length (journal_of B)) (counts_of (store_of B)) (rows_of B) (f b h row set).rising (row_at B 0) i row l (omega (arith, rows_long b h row set)) in
      let e = row_is b h row set i (omega arith) in
      let g = row_is b h row set row set in
      subst (λ (x : MarkRow). (x.place ≤ (row_at B row).place) × (counts_within x.counts (row_at B row).counts ≡ true)) e
      (subst
      (λ (y : MarkRow). ((get_or (rows_of B) i (row_at B 0)).place ≤ y.place) × (counts_within (get_or (rows_of B) i (row_at B 0)).counts y.counts ≡ true)) g z)

  snapshot : (i : ℕ) → i ≤ row → snapshot_of (store_of E) (journal_of E) (row_at B i) ≡ snapshot_of (store_of B) (journal_of B) (row_at B i)
  unfolding then row_at
  snapshot i l =
      ap₂ (λ (s : Store) (es : List Entry). snapshot_of s es (row_at B i)) reads left
      ∙ back_snapshot (store_of B) (journal_of B) (row_at B row) (between b h row set).to (row_at B i) (older i l).0 (older i l).1

  counts_low : (i : ℕ) → i < mark_count B → counts_within (row_at B i).counts (counts_of (store_of B)) ≡ true
  unfolding journaled_of
  counts_low i l =
      (row_at_lem 0 no_counts (length (journal_of B)) (counts_of (store_of B)) (rows_of B) (f b h row set).rising
      (subst (λ (r : MarkRow). Memᴰ r (rows_of B)) (row_is b h row set i l) (mem_get_d (rows_of B) i (row_at B 0) (omega (arith, rows_long b h row set))))).fewer

  held : (i : ℕ) → i < mark_count B → FullHolds B (store_of B) (journal_of B) (full_at B i)
  held i l = full_facts B i ((words b h row set).rows i l)

  ranges : (i : ℕ) → i < mark_count B → ranges_end E (row_at B i).counts ≡ true
  unfolding full_at
  ranges i l =
      let k = (row_at B i).counts in
      ranges_kept T E tables_kept k ∙ ranges_same (columns u) T kept.region_ends kept.result_ends kept.argument_ends k
      ∙ ranges_behind B (columns u) d.behind k (counts_low i l) (held i l).ranges

  row_held : (i : ℕ) → i < mark_count E → FullHolds E (store_of E) (journal_of E) (full_at E i)
  unfolding full_at
  row_held i l =
      let m : i ≤ row = omega (arith, marks) in
      let g : i < mark_count B = omega arith in
      subst (FullHolds E (store_of E) (journal_of E)) (sym (full i))
      (held_as B E (store_of B) (store_of E) (journal_of B) (journal_of E) (full_at B i) (row_at B i) (snapshot i m) (ranges i g ∙ sym (held i g).ranges) (held i g))

  pub went_back : PutBack b exit row
  unfolding then
  went_back =
      record {
        tables = sound_kept t exit tables (long ∙ h.tables.sized) tables_kept;
        reads = reads;
        left = left;
        rows = rows;
        marks = marks;
        holds =
            holds_of E
            (record {
              short = omega (arith, entries, place_fits b h row set, (words b h row set).short);
              counted = counted;
              rows = λ i l. full_of E i (row_held i l);
            });
      }
