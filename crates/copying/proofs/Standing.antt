-- A copy that is written on a lent buffer leaves it lent: nothing is remembered, and every mark's snapshot and row are what they were. Assumes nothing.
use Prim.Native.Nat.{ℕ, ◌<◌, ◌≤◌}
use mathlib.Core.Bool.{true}
use mathlib.Core.List.{List}
use Rattle.std.specs.Prelude.{Option, None}
use mathlib.Core.Path.{◌≡◌, sym, ap, subst, ◌∙◌}
use Rattle.rules.specs.Building.{Built, first_failed}
use Rattle.rules.specs.Copying.{copy_tests}
use Rattle.rules.specs.Marks.{copy, marked_tests, marked_acceptance}
use Rattle.layout.specs.Columns.{Cols, columns}
use Rattle.layout.specs.Reading.{store_of, store_in}
use Rattle.layout.specs.Journal.{snapshot_of, Journaled, marked_of, journaled_copy, journal_sound, replaced_in}
use Rattle.layout.specs.MarkedReading.{mark_count, max_entries, journal_of, row_at, rows_of, journaled_of, marked_in, IsLent}
use Rattle.undo_log.specs.JournalLaws.{CopyRead, CopySound, JournalShort}
use Rattle.undo_log.proofs.MarkRows.{facts}
use Rattle.undo_log.proofs.Short.{journal_short}
use Rattle.undo_log.proofs.Copied.{copy_snapshot, copy_read, copy_sound}
use Rattle.undo_log.specs.MarkedCalls.{PerformsMarked}
use Rattle.undo_log.proofs.Doing as doing
use Rattle.undo_log.proofs.Lent.{Lent, lent_facts}
use Rattle.undo_log.proofs.Holding.{Remembered}
use Rattle.undo_log.specs.EntryWrites.{replaced_count}
use Rattle.undo_log.proofs.LentJournal.{held_facts, held_of, held_counted, journal_length}
use Rattle.undo_log.proofs.CallKeeps.{Kept, row_kept_lem, rows_kept, row_same, row_between}
use Rattle.undo_log.proofs.Unremembered.{behind_kept, behind_journal, behind_replaced}
use Rattle.copying.specs.Cloned.{Written}

module _ (b : List ℕ) (h : IsLent b) (n : ℕ) (place : Option ℕ) (clear : first_failed (copy_tests (store_in b) n place) ≡ None) (exit m : List ℕ) (w : Written b exit n place m) where
  abbrev C : Cols
  C = columns b

  abbrev D : Cols
  D = columns exit

  abbrev j : Journaled
  j = journaled_of C

  lent : Lent b
  lent = lent_facts b h

  kept : Kept C D
  kept = behind_kept C D w.behind

  journal : journal_of D ≡ journal_of C
  journal = behind_journal C D w.behind

  tests_pass : first_failed (marked_tests (marked_in b) (copy true n place)) ≡ None
  unfolding marked_tests first_failed marked_of journaled_of
  tests_pass = clear

  next_sound : journal_sound (journaled_copy j n place) ≡ true
  unfolding CopySound
  next_sound = copy_sound j true n place lent.journal tests_pass

  called : journaled_of D ≡ journaled_copy j n place
  unfolding journaled_of journaled_copy
  called = λ i. record { store = w.reads i; journal = journal i; rows = rows_kept C D kept i }

  exit_sound : journal_sound (journaled_of D) ≡ true
  exit_sound = ap journal_sound called ∙ next_sound

  held : 0 < mark_count D → Remembered D
  unfolding JournalShort journaled_of rows_of replaced_count row_at
  held l =
      let o : 0 < mark_count C = subst (λ (k : ℕ). 0 < k) kept.marks l in
      let was = held_facts C o lent.holds in
      let rising = (facts j lent.journal).rising in
      record {
        short = subst (λ (k : ℕ). k ≤ max_entries) (journal_length D l) (journal_short (journaled_of D) exit_sound);
        counted = behind_replaced C D w.behind ∙ held_counted C o lent.holds ∙ ap replaced_in (sym journal);
        rows = λ i k.
            let e : i < mark_count C = subst (λ (x : ℕ). i < x) kept.marks k in
            let at = row_between C D kept rising i e in
            row_same C D kept i
            ((λ z. snapshot_of (w.reads z) (journal z) (row_kept_lem C D kept i z)) ∙ copy_snapshot (store_of C) n place (journal_of C) (row_at C i) at.to at.fewer)
            at.fewer
            ∙ was.rows i e;
      }

  -- ---- the call

  pub written_done : (r : Built) → r ≡ marked_acceptance (marked_in b) (copy true n place) → PerformsMarked b exit (copy true n place) r
  unfolding CopyRead
  written_done r q =
      doing.marked_work b (copy true n place) r exit (journaled_copy j n place) tests_pass called (copy_read j true n place lent.journal) next_sound
      (subst (λ (k : ℕ). k ≤ 8) (sym kept.marks) lent.few) (held_of D held) w.sound q
