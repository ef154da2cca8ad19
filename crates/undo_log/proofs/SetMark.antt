-- What setting a mark writes stands for the journal's step, and what it asks of the buffer on the way holds. Assumes nothing.
use Rattle.rules.specs.declared.types.Cause.TheVariants.{NoMark}
use Prim.Native.Nat.{ℕ, suc, ◌<◌, ◌≤◌}
use native.Mathlib.Omega.{arith}
use mathlib.Core.Bool.{Bool, true, false, cond, ◌&&◌}
use mathlib.Core.List.{List, [], ◌∷◌, ◌++◌, map, map-append, append-nil}
use Rattle.std.specs.Prelude.{None, Some}
use mathlib.Core.Path.{◌≡◌, refl, sym, ap, ap₂, subst, ◌∙◌}
use borrow.Author.Tests.{ltb-true, ltb-false, ne_eqb, le-leb, lt-leb}
use lib.Dec.{leb, ltb}
use lib.ListN.{length, take, drop, length-append, length-drop, drop_of_length-le}
use lib.Seq.{take_all}
use Rattle.rules.specs.Building.{accepted, first_failed}
use Rattle.rules.specs.Marks.{set_mark, is_mark, max_marks, marked_tests, marked_acceptance}
use Rattle.rules.proofs.Basics.Tests.{and_both}
use Rattle.layout.specs.Columns.{Cols, columns, at, mark_place}
use Rattle.layout.specs.Reading.{store_of}
use Rattle.layout.proofs.Buffer.{columns_shaped}
use Rattle.layout.proofs.Scans.{and_false}
use Rattle.layout.proofs.Tabulate.{length_tabulate}
use Rattle.mutation.proofs.Causes.{none_fail, fails, passes}
use Rattle.layout.specs.Journal.{Entry, counts_of, no_counts, replaced_in, MarkRow, Journaled, oldest_place, placed_back, freed, rows_without, journaled_mark, journal_sound}
use Rattle.layout.specs.MarkedReading.{mark_count, journal_of, rows_of, journaled_of, journal_holds, marked_in}
use Rattle.undo_log.specs.JournalLaws.{MarkRead, MarkSound, JournalShort}
use Rattle.undo_log.proofs.MarkRows.{Rising, Numbered, facts, rising_filter, rising_new}
use Rattle.undo_log.proofs.ReadMark.{mark_read}
use Rattle.undo_log.proofs.Short.{journal_short}
use Rattle.undo_log.proofs.KeptMark.{mark_sound}
use Rattle.undo_log.specs.MarkWrites.{place_in, begun, row_taken, mark_taken, row_added, Freeable, with_mark}
use Rattle.undo_log.specs.MarkedCalls.{PerformsMarked}
use Rattle.undo_log.proofs.Lent.{Lent, lent_facts}
use Rattle.undo_log.proofs.Doing.{marked_work}
use Rattle.undo_log.proofs.Tables.{TablesKept, store_kept, sound_kept}
use Rattle.undo_log.proofs.Few.{numbered_few}
use Rattle.undo_log.proofs.Sought.{rows_without_lem}
use Rattle.undo_log.proofs.Listed.{map_take, map_drop, map_length, Every, every_at, every_take, every_drop, every_append}
use Rattle.undo_log.proofs.Standing.{Full, full_at, fulls_of, entries_of, row_in, rows_fulls, new_full, full_back, Stands, marks_stand, entries_stand, full_stands, rows_stand}
use Rattle.undo_log.proofs.Holding.{FullHolds, full_of, holds_of}
use Rattle.undo_log.proofs.MarkSteps.{taken_stands, added_stands}
use Rattle.undo_log.proofs.Freed.{begun_stands}
use Rattle.undo_log.proofs.Oldest.{From, oldest_first, oldest_word, freeable, back_rows, words_freed}
use Rattle.undo_log.proofs.HeldRows.{rows_held, present_held, held_back, held_kept}

-- ---- the mark's row goes, if it is set

abbrev kept_fulls : ℕ → List Full → List Full
kept_fulls k fulls = take (place_in k (map row_in fulls)) fulls ++ drop (suc (place_in k (map row_in fulls))) fulls

mark_taken_lem : (B C : Cols) (fulls : List Full) (journal : List Entry) (k : ℕ) → mark_count C ≤ 8 → Stands B C fulls journal → Stands B (mark_taken C k) (kept_fulls k fulls) journal
unfolding mark_taken
mark_taken_lem B C fulls journal k few g =
    subst (λ (p : ℕ). Stands B (cond (ltb p (mark_count C)) (row_taken C p) C) (kept_fulls k fulls) journal) (sym (ap (place_in k) (rows_stand g)))
    (go (ltb (place_in k (map row_in fulls)) (mark_count C)) refl)
  where
    p : ℕ
    p = place_in k (map row_in fulls)

    go : (t : Bool) → ltb p (mark_count C) ≡ t → Stands B (cond t (row_taken C p) C) (kept_fulls k fulls) journal
    go true e = taken_stands B C fulls journal g few p (ltb-true p (mark_count C) e)
    go false e =
        let l : mark_count C ≤ p = ltb-false p (mark_count C) e in
        subst (λ (fs : List Full). Stands B C fs journal)
        (sym (ap₂ ◌++◌ (take_all p fulls (omega (arith, marks_stand g))) (drop_of_length-le fulls {i = suc p} (omega (arith, marks_stand g))) ∙ append-nil fulls))
        g

kept_rows : (k : ℕ) (fulls : List Full) → Numbered (map row_in fulls) → map row_in (kept_fulls k fulls) ≡ rows_without k (map row_in fulls)
kept_rows k fulls p =
    let n = place_in k (map row_in fulls) in
    map-append row_in (take n fulls) (drop (suc n) fulls) ∙ ap₂ ◌++◌ (map_take row_in n fulls) (map_drop row_in (suc n) fulls) ∙ sym (rows_without_lem k (map row_in fulls) p)

-- ---- marks from 1 to 8

pub is_mark_lem : (k : ℕ) → 1 ≤ k → k ≤ 8 → is_mark k ≡ true
unfolding is_mark
is_mark_lem k l h = and_both _ _ (le-leb 1 k l) (le-leb k max_marks h)

module _ (b : List ℕ) (k : ℕ) where
  pub refused_as : is_mark k ≡ false → first_failed (marked_tests (marked_in b) (set_mark k)) ≡ Some NoMark
  unfolding marked_tests
  refused_as e = fails (is_mark k) NoMark [] e

  pub no_mark_low : k < 1 → first_failed (marked_tests (marked_in b) (set_mark k)) ≡ Some NoMark
  unfolding is_mark
  no_mark_low l = refused_as (ap (λ (t : Bool). t && leb k max_marks) (lt-leb 1 k l))

  pub no_mark_high : 8 < k → first_failed (marked_tests (marked_in b) (set_mark k)) ≡ Some NoMark
  unfolding is_mark
  no_mark_high l = refused_as (and_false (leb 1 k) (leb k max_marks) (lt-leb k max_marks l))

-- ---- a lent buffer, and a mark from 1 to 8

module _ (b : List ℕ) (h : Lent b) (k : ℕ) (named : is_mark k ≡ true) where
  abbrev B : Cols
  B = columns b

  abbrev remembered : List Entry
  remembered = journal_of B

  abbrev after : Journaled
  after = journaled_mark (journaled_of B) k

  begun_so : Stands B (begun B) (fulls_of B) remembered
  begun_so = begun_stands B (columns_shaped b h.tables.sized) h.holds

  pub begun_few : mark_count (begun B) ≤ 8
  unfolding fulls_of
  begun_few = omega (arith, marks_stand begun_so, length_tabulate (mark_count B) (full_at B), h.few)

  abbrev others : List Full
  others = kept_fulls k (fulls_of B)

  taken_so : Stands B (mark_taken (begun B) k) others remembered
  taken_so = mark_taken_lem B (begun B) (fulls_of B) remembered k begun_few begun_so

  -- the other rows are those without the mark
  other_rows : map row_in others ≡ rows_without k (rows_of B)
  unfolding journaled_of
  other_rows =
      kept_rows k (fulls_of B) (subst Numbered (rows_fulls B) (facts (journaled_of B) h.journal).numbered) ∙ ap (rows_without k) (sym (rows_fulls B))

  abbrev last : MarkRow
  last = record { number = k; counts = counts_of (store_of B); place = length remembered }

  abbrev rows : List MarkRow
  rows = rows_without k (rows_of B) ++ (last ∷ [])

  after_sound : journal_sound after ≡ true
  unfolding MarkSound
  after_sound = mark_sound (journaled_of B) k h.journal named

  rows_few : length rows ≤ 8
  unfolding journaled_mark journaled_of freed
  rows_few = omega (arith, numbered_few after.rows (facts after after_sound).numbered, map_length (placed_back (oldest_place rows)) rows)

  others_few : length others < 8
  others_few =
      omega (arith, rows_few, length-append (rows_without k (rows_of B)) (last ∷ []), ap length other_rows, map_length row_in others)

  pub taken_few : mark_count (mark_taken (begun B) k) < 8
  taken_few = omega (arith, marks_stand taken_so, others_few)

  abbrev fulls : List Full
  fulls = others ++ (new_full B k (length remembered) ∷ [])

  abbrev E : Cols
  E = row_added (mark_taken (begun B) k) k

  added_so : Stands B E fulls remembered
  added_so = added_stands B (mark_taken (begun B) k) others remembered taken_so taken_few k

  full_rows : map row_in fulls ≡ rows
  full_rows = map-append row_in others _ ∙ ap (λ (rs : List MarkRow). rs ++ (last ∷ [])) other_rows

  rises : Rising 0 no_counts (length remembered) (counts_of (store_of B)) rows
  unfolding rows_without journaled_of
  rises =
      rising_new k 0 no_counts (length remembered) (counts_of (store_of B)) (rows_without k (rows_of B))
      (rising_filter _ 0 no_counts (length remembered) (counts_of (store_of B)) (rows_of B) (facts (journaled_of B) h.journal).rising)

  full_rises : Rising 0 no_counts (length remembered) (counts_of (store_of B)) (map row_in fulls)
  full_rises = subst (Rising 0 no_counts (length remembered) (counts_of (store_of B))) (sym full_rows) rises

  short : length remembered ≤ 2048
  unfolding JournalShort journaled_of
  short = journal_short (journaled_of B) h.journal

  fulls_few : length fulls ≤ 8
  fulls_few = omega (arith, ap length full_rows, map_length row_in fulls, rows_few)

  some_set : 0 < mark_count E
  some_set = omega (arith, marks_stand added_so, length-append others (new_full B k (length remembered) ∷ []))

  oldest_there : at E mark_place 0 ≡ oldest_place (map row_in fulls)
  oldest_there = oldest_word E some_set ∙ ap oldest_place (rows_stand added_so)

  pub added_free : Freeable E (at E mark_place 0)
  unfolding journaled_of
  added_free = subst (Freeable E) (sym oldest_there) (freeable added_so (counts_of (store_of B)) fulls_few short (facts (journaled_of B) h.journal).few full_rises)

  abbrev n : ℕ
  n = at E mark_place 0

  pub freed_so : Stands B (with_mark B k) (map (full_back n) fulls) (drop n remembered)
  unfolding with_mark
  freed_so = words_freed B E fulls remembered added_so added_free

  count_is : mark_count (with_mark B k) ≡ length fulls
  count_is = marks_stand freed_so ∙ map_length (full_back n) fulls

  -- with a mark, the journal is read
  journal_is : journal_of (with_mark B k) ≡ drop n remembered
  unfolding journal_of entries_of
  journal_is =
      ap (λ (t : Bool). cond t [] (entries_of (with_mark B k)))
      (ne_eqb (mark_count (with_mark B k)) 0 (λ e. omega (arith, count_is, length-append others (new_full B k (length remembered) ∷ []))))
      ∙ freed_so.entries

  pub mark_reads : journaled_of (with_mark B k) ≡ after
  unfolding journaled_of journaled_mark freed
  mark_reads =
      let oldest : n ≡ oldest_place rows = oldest_there ∙ ap oldest_place full_rows in
      let is : rows_of (with_mark B k) ≡ map (placed_back (oldest_place rows)) rows =
      rows_stand freed_so ∙ back_rows n fulls ∙ ap₂ (λ (m : ℕ) (rs : List MarkRow). map (placed_back m) rs) oldest full_rows in
      let entries : journal_of (with_mark B k) ≡ drop (oldest_place rows) remembered = journal_is ∙ ap (λ (m : ℕ). drop m remembered) oldest in
      λ t. record { store = store_kept B (with_mark B k) freed_so.kept t; journal = entries t; rows = is t }

  -- ---- the words hold

  held : Every (FullHolds B (store_of B) (drop n remembered)) (map (full_back n) fulls)
  held =
      let P = FullHolds B (store_of B) remembered in
      let p = place_in k (map row_in (fulls_of B)) in
      let old : Every P (fulls_of B) = rows_held B h.holds in
      held_back B (store_of B) remembered n fulls
      (subst (λ (m : ℕ). Every (From m) fulls) (sym oldest_there) (oldest_first (length remembered) (counts_of (store_of B)) fulls full_rises))
      (every_append P others _
      (every_append P (take p (fulls_of B)) (drop (suc p) (fulls_of B)) (every_take P p (fulls_of B) old) (every_drop P (suc p) (fulls_of B) old))
      (present_held b h.tables remembered k, tt))

  row_held : (i : ℕ) → i < mark_count (with_mark B k) → FullHolds (with_mark B k) (store_of (with_mark B k)) (journal_of (with_mark B k)) (full_at (with_mark B k) i)
  row_held i l =
      let D = with_mark B k in
      let d = full_at D i in
      subst (λ (es : List Entry). FullHolds D (store_of D) es (full_at D i)) (sym journal_is)
      (subst (FullHolds D (store_of D) (drop n remembered)) (sym (full_stands freed_so i d l))
      (held_kept B D freed_so.kept (drop n remembered) _
      (every_at (FullHolds B (store_of B) (drop n remembered)) (map (full_back n) fulls) held i d (omega (arith, marks_stand freed_so)))))

  pub mark_holds : journal_holds (with_mark B k) ≡ true
  mark_holds =
      holds_of (with_mark B k)
      (record {
        short = omega (arith, entries_stand freed_so, length-drop n remembered, short);
        counted = freed_so.counted ∙ ap replaced_in (sym journal_is);
        rows = λ i l. full_of (with_mark B k) i (row_held i l);
      })

  -- ---- the call

  clear : first_failed (marked_tests (marked_in b) (set_mark k)) ≡ None
  unfolding marked_tests
  clear = passes (is_mark k) NoMark [] named none_fail

  pub mark_done : (exit : List ℕ) → length exit ≡ length b → columns exit ≡ with_mark B k → PerformsMarked b exit (set_mark k) accepted
  unfolding MarkRead marked_acceptance
  mark_done exit long e =
      marked_work b (set_mark k) accepted exit after clear (ap journaled_of e ∙ mark_reads) (mark_read (journaled_of B) k h.journal) after_sound
      (omega (arith, ap mark_count e, count_is, fulls_few)) (ap journal_holds e ∙ mark_holds)
      (sound_kept b exit h.tables (long ∙ h.tables.sized) (subst (TablesKept B) (sym e) freed_so.kept)) refl

-- what the steps of setting a mark ask for
pub ruleset stays_lent = (lent_facts, begun_few, taken_few, added_free)
