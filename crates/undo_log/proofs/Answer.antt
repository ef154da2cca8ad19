-- Going back to a mark that is not set is refused, and else the buffer is read as the journal's step. Assumes nothing.
use Rattle.rules.specs.declared.types.Cause.TheVariants.{NoMark}
use Prim.Native.Nat.{ℕ, ◌<◌}
use native.Mathlib.Omega.{arith}
use mathlib.Core.Bool.{true}
use mathlib.Core.List.{List, []}
use Rattle.std.specs.Prelude.{None, Some}
use mathlib.Core.Path.{◌≡◌, refl, sym, ap, ◌∙◌}
use borrow.Author.Tests.{lt-ltb}
use lib.Dec.{ltb}
use lib.ListN.{length, take}
use Rattle.std.specs.List.{list_any}
use Rattle.rules.specs.Building.{accepted, first_failed}
use Rattle.rules.specs.Marks.{go_back, is_mark, is_set, marked_tests, marked_acceptance}
use Rattle.rules.proofs.Basics.Tests.{and_both}
use Rattle.layout.specs.Columns.{Cols, columns}
use Rattle.layout.specs.Reading.{store_of}
use Rattle.layout.proofs.Scans.{and_false}
use Rattle.layout.proofs.Tabulate.{length_tabulate}
use Rattle.mutation.proofs.Causes.{none_fail, fails, passes}
use Rattle.layout.specs.Journal.{MarkRow, Journaled, marked_of, row_has_number, rows_up_to, row_or, snapshot_of, journaled_back}
use Rattle.layout.specs.MarkedReading.{mark_count, journal_of, row_at, rows_of, journaled_of, marked_in}
use Rattle.undo_log.specs.JournalLaws.{TestsRead, BackRead, BackSound}
use Rattle.undo_log.proofs.MarkRows.{facts, found}
use Rattle.undo_log.proofs.ReadTests.{tests_read}
use Rattle.undo_log.proofs.ReadBack.{back_read}
use Rattle.undo_log.proofs.KeptBack.{back_sound_lem}
use Rattle.undo_log.specs.MarkWrites.{row_of, row_found}
use Rattle.undo_log.specs.MarkedCalls.{PerformsMarked}
use Rattle.undo_log.proofs.Chosen.{no_row}
use Rattle.undo_log.proofs.Lent.{Lent}
use Rattle.undo_log.proofs.Doing.{marked_work}
use Rattle.undo_log.proofs.Sought.{place_set, place_row, place_up_to}
use Rattle.undo_log.specs.Returning.{PutBack}
use Rattle.undo_log.proofs.BackRows.{numbered_at}
use Rattle.undo_log.proofs.UndoneToMark.{row_is}

module _ (b : List ℕ) (h : Lent b) (k : ℕ) where
  abbrev C : Cols
  C = columns b

  abbrev j : Journaled
  j = journaled_of C

  is_set_lem : is_set k (marked_of j).marks ≡ ltb (row_of C k) (length (rows_of C))
  unfolding TestsRead journaled_of
  is_set_lem = (tests_read j).0 k ∙ place_set k (rows_of C)

  count : length (rows_of C) ≡ mark_count C
  unfolding rows_of
  count = length_tabulate (mark_count C) (row_at C)

  pub not_set : row_found C k ≡ None → first_failed (marked_tests (marked_in b) (go_back k)) ≡ Some NoMark
  unfolding marked_tests
  not_set e = fails _ NoMark [] (and_false (is_mark k) _ (is_set_lem ∙ ap (ltb (row_of C k)) count ∙ no_row C k e))

  module _ (l : row_of C k < mark_count C) where
    abbrev row : ℕ
    row = row_of C k

    abbrev r : MarkRow
    r = row_or (row_at C 0) k (rows_of C)

    there : list_any (row_has_number k) (rows_of C) ≡ true
    there = place_set k (rows_of C) ∙ lt-ltb (row_of C k) (length (rows_of C)) (omega (arith, count))

    same : row_at C row ≡ r
    same = sym (row_is b h row l row l) ∙ place_row (row_at C 0) k (rows_of C)

    numbered : r.number ≡ k
    numbered = (found (row_at C 0) k (rows_of C) there).1

    is_mark_lem : is_mark k ≡ true
    unfolding journaled_of
    is_mark_lem =
        ap is_mark (sym numbered) ∙ numbered_at (rows_of C) (facts j h.journal).numbered (found (row_at C 0) k (rows_of C) there).0

    clear : first_failed (marked_tests (marked_in b) (go_back k)) ≡ None
    unfolding marked_tests
    clear = passes _ NoMark [] (and_both _ _ is_mark_lem (is_set_lem ∙ lt-ltb (row_of C k) (length (rows_of C)) (omega (arith, count)))) none_fail

    abbrev after : Journaled
    after = journaled_back j r

    module _ (exit : List ℕ) (w : PutBack b exit row) where
      step : journaled_of (columns exit) ≡ after
      unfolding journaled_of journaled_back row_at
      step =
          let stores = w.reads ∙ ap (snapshot_of (store_of C) (journal_of C)) same in
          let journals = w.left ∙ ap (λ (x : MarkRow). take x.place (journal_of C)) same in
          let rows = w.rows ∙ sym (place_up_to k (rows_of C)) ∙ ap (λ (m : ℕ). rows_up_to m (rows_of C)) (sym numbered) in
          λ t. record { store = stores t; journal = journals t; rows = rows t }

      pub back_done : PerformsMarked b exit (go_back k) accepted
      unfolding BackRead BackSound marked_acceptance journaled_of
      back_done =
          marked_work b (go_back k) accepted exit after clear step (back_read j k h.journal there (row_at C 0)) (back_sound_lem j k h.journal there (row_at C 0))
          (omega (arith, w.marks, h.few)) w.holds w.tables refl
