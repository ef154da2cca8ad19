-- A building call on a lent buffer that refuses by the first test that fails and changes nothing, or passes them all, does to the tables what the rules
-- say and to the journal what marks ask, does what a call on a marked store has to. Assumes nothing.
use Rattle.rules.specs.declared.types.Cause.TheVariants.{JournalFull}
use Rattle.rules.specs.declared.types.Cause.{Cause}
use Prim.Native.Nat.{ℕ, zero, suc, ◌<◌, ◌≤◌}
use native.Mathlib.Nat.{not-suc-le-zero}
use mathlib.Core.Bool.{Bool, true, false, cond, not, ◌||◌}
use mathlib.Core.List.{List, [], ◌∷◌, ◌++◌}
use Rattle.std.specs.Prelude.{Option, None, Some}
use mathlib.Core.Path.{◌≡◌, refl, sym, ap, subst, ◌∙◌}
use lib.Dec.{ltb}
use lib.ListN.{length}
use Rattle.rules.specs.Store.{Store}
use Rattle.rules.specs.Building.{Call, Built, refused, tests, first_failed, applied, acceptance}
use Rattle.rules.specs.Marks.{build, replaces, max_remembered, can_remember, marked_tests, marked_acceptance}
use Rattle.rules.proofs.Basics.Tests.{impossible}
use Rattle.rules.proofs.Soundness.Accepted.{first_failed_none}
use Rattle.layout.specs.Columns.{Cols, columns}
use Rattle.layout.specs.Reading.{tabulate_from, tabulate, store_of, store_in}
use Rattle.layout.specs.Soundness.{IsSound}
use Rattle.layout.specs.Journal.{Entry, entries_for, replaced_in, MarkRow, Journaled, marked_of, remembered_in, journaled_call, journal_sound}
use Rattle.layout.specs.MarkedReading.{mark_count, max_entries, journal_of, rows_of, journaled_of, marked_in, IsLent}
use Rattle.undo_log.specs.JournalLaws.{CallRead, TestsRead, CallSound, JournalShort}
use Rattle.undo_log.proofs.MarkRows.{facts}
use Rattle.undo_log.proofs.ReadCall.{call_read}
use Rattle.undo_log.proofs.ReadTests.{tests_read}
use Rattle.undo_log.proofs.KeptCall.{call_sound}
use Rattle.undo_log.proofs.Short.{journal_short}
use Rattle.undo_log.specs.MarkedCalls.{PerformsMarked}
use Rattle.undo_log.proofs.Doing as doing
use Rattle.undo_log.proofs.Lent.{Lent, lent_facts}
use Rattle.undo_log.proofs.Holding.{Remembered}
use Rattle.undo_log.specs.EntryWrites.{replaced_count}
use Rattle.undo_log.proofs.LentJournal.{held_facts, held_of, journal_length}
use Rattle.undo_log.proofs.CallKeeps.{Kept, rows_kept, row_holds_lem}

-- ---- tests, and more behind them

tests_fail : (ts us : List (Bool × Cause)) (cause : Cause) → first_failed ts ≡ Some cause → first_failed (ts ++ us) ≡ Some cause
unfolding first_failed
tests_fail [] us cause e = impossible cc
tests_fail (t ∷ ts) us cause e = go t.0 e (tests_fail ts us cause)
  where
    go : (b : Bool) → cond b (first_failed ts) (Some t.1) ≡ Some cause → (first_failed ts ≡ Some cause → first_failed (ts ++ us) ≡ Some cause)
        → cond b (first_failed (ts ++ us)) (Some t.1) ≡ Some cause
    go true q f = f q
    go false q f = q

tests_pass : (ts us : List (Bool × Cause)) → first_failed ts ≡ None → first_failed (ts ++ us) ≡ first_failed us
unfolding first_failed
tests_pass [] us e = refl
tests_pass (t ∷ ts) us e = rw (first_failed_none (t ∷ ts) e).0 (tests_pass ts us (go t.0 e))
  where
    go : (b : Bool) → cond b (first_failed ts) (Some t.1) ≡ None → first_failed ts ≡ None
    go true q = q
    go false q = impossible cc

-- ---- while a mark is set, an entry goes to the journal's end

pub remembered_behind : (n : ℕ) (f : ℕ → MarkRow) (journal new : List Entry) → 0 < n → remembered_in (tabulate n f) journal new ≡ journal ++ new
unfolding remembered_in tabulate tabulate_from
remembered_behind zero f journal new l = absurd (not-suc-le-zero l)
remembered_behind (suc n) f journal new l = refl

module _ (b : List ℕ) (h : IsLent b) (c : Call) where
  abbrev C : Cols
  C = columns b

  abbrev s : Store
  s = store_of C

  abbrev j : Journaled
  j = journaled_of C

  abbrev failing : Option Cause
  failing = first_failed (marked_tests (marked_in b) (build c))

  lent : Lent b
  lent = lent_facts b h

  -- ---- the tests

  pub can_remember_lem : can_remember (marked_in b) c ≡ (not (replaces s c) || ltb (replaced_in (journal_of C)) max_remembered)
  unfolding can_remember marked_of journaled_of TestsRead
  can_remember_lem = ap (λ (n : ℕ). not (replaces s c) || ltb n max_remembered) ((tests_read j).1 lent.journal)

  fails : (cause : Cause) → first_failed (tests s c) ≡ Some cause → failing ≡ Some cause
  unfolding marked_tests marked_of journaled_of
  fails cause e = tests_fail (tests s c) _ cause e

  module _ (clear : first_failed (tests s c) ≡ None) where
    passes_by : (t : Bool) → can_remember (marked_in b) c ≡ t → failing ≡ cond t None (Some JournalFull)
    unfolding marked_tests marked_of journaled_of first_failed
    passes_by t e = tests_pass (tests s c) _ clear ∙ ap (λ (x : Bool). cond x None (Some JournalFull)) e

  -- ---- refused

  module _ (r : Built) where
    pub marked_refuse : (cause : Cause) → first_failed (tests s c) ≡ Some cause → r ≡ refused cause → PerformsMarked b b (build c) r
    marked_refuse cause e q = doing.marked_refuse b (build c) r h cause (fails cause e) q

    pub marked_full : first_failed (tests s c) ≡ None → can_remember (marked_in b) c ≡ false → r ≡ refused JournalFull → PerformsMarked b b (build c) r
    marked_full clear full q = doing.marked_refuse b (build c) r h JournalFull (passes_by clear false full) q

  -- ---- accepted

  module _ (clear : first_failed (tests s c) ≡ None) (can : can_remember (marked_in b) c ≡ true) where
    next_sound : journal_sound (journaled_call j c) ≡ true
    unfolding CallSound
    next_sound = call_sound j c lent.journal (passes_by clear true can)

    -- the journal stays short
    pub journal_room : 0 < mark_count C → length (journal_of C ++ entries_for s c) ≤ max_entries
    unfolding JournalShort journaled_call journaled_of rows_of
    journal_room l =
        subst (λ (es : List Entry). length es ≤ max_entries) (remembered_behind (mark_count C) _ (journal_of C) (entries_for s c) l) (journal_short (journaled_call j c) next_sound)

    module _ (exit : List ℕ) (reads : store_in exit ≡ applied s c) (sound : IsSound exit) (k : Kept C (columns exit)) where
      abbrev D : Cols
      D = columns exit

      module _ (journal : journal_of D ≡ remembered_in (rows_of C) (journal_of C) (entries_for s c)) (counted : 0 < mark_count C → replaced_count D ≡ replaced_in (journal_of D)) where
        called : journaled_of D ≡ journaled_call j c
        unfolding journaled_of journaled_call
        called = λ i. record { store = reads i; journal = journal i; rows = rows_kept C D k i }

        exit_sound : journal_sound (journaled_of D) ≡ true
        exit_sound = ap journal_sound called ∙ next_sound

        held : 0 < mark_count D → Remembered D
        unfolding JournalShort journaled_of rows_of replaced_count
        held l =
            let m : 0 < mark_count C = subst (λ (n : ℕ). 0 < n) k.marks l in
            let longer : journal_of D ≡ journal_of C ++ entries_for s c = journal ∙ remembered_behind (mark_count C) _ (journal_of C) (entries_for s c) m in
            let was = held_facts C m lent.holds in
            record {
              short = subst (λ (n : ℕ). n ≤ max_entries) (journal_length D l) (journal_short (journaled_of D) exit_sound);
              counted = counted m;
              rows = λ i n.
                  let e : i < mark_count C = subst (λ (x : ℕ). i < x) k.marks n in
                  row_holds_lem C D k c lent.tables.ruled clear reads longer (facts j lent.journal).rising i e ∙ was.rows i e;
            }

        pub marked_work : (r : Built) → r ≡ acceptance s c → PerformsMarked b exit (build c) r
        unfolding marked_acceptance marked_of journaled_of CallRead
        marked_work r q =
            doing.marked_work b (build c) r exit (journaled_call j c) (passes_by clear true can) called (call_read j c lent.journal clear) next_sound
            (subst (λ (n : ℕ). n ≤ 8) (sym k.marks) lent.few) (held_of D held) sound q
