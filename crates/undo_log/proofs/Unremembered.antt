-- A building call of which nothing is remembered: none is while no mark is set, and what adds never is. Assumes nothing.
use Rattle.rules.specs.declared.types.Cause.{Cause}
use Prim.Native.Nat.{ℕ, zero, suc}
use native.Mathlib.Omega.{arith}
use mathlib.Core.Bool.{true, false, cond, not}
use mathlib.Core.List.{List, [], ◌++◌, append-nil}
use Rattle.std.specs.Prelude.{Option, None, Some}
use mathlib.Core.Path.{◌≡◌, refl, sym, ap, subst, ◌∙◌}
use lib.Dec.{eqb, ltb}
use lib.ListN.{get_or}
use Rattle.rules.specs.Store.{Store}
use Rattle.rules.specs.Building.{Call, Built, refused, tests, first_failed, answer_by, store_by, answer, built}
use Rattle.rules.specs.Marks.{build, replaces, max_remembered, can_remember}
use Rattle.rules.proofs.Basics.Tests.{or_left, or_right}
use Rattle.layout.specs.Columns.{Cols, columns, at, mark_number, mark_place, mark_counts, journal_counts, journal_sort, journal_owner, journal_key, journal_kind, journal_content}
use Rattle.layout.specs.Reading.{tabulate_from, tabulate, store_of}
use Rattle.mutation.specs.Doing.{Behind, Performs}
use Rattle.layout.specs.Journal.{Entry, entries_for, replaced_in, remembered_in}
use Rattle.layout.specs.MarkedReading.{entry_from, entry_at, mark_count, entry_count, journal_of, row_at, rows_of, marked_in, IsLent}
use Rattle.undo_log.specs.MarkedCalls.{PerformsMarked}
use Rattle.undo_log.proofs.Lent.{lent_facts}
use Rattle.layout.proofs.Bare.{no_journal}
use Rattle.undo_log.specs.EntryWrites.{replaced_count}
use Rattle.undo_log.proofs.LentJournal.{held_counted}
use Rattle.undo_log.proofs.CallKeeps.{Kept}
use Rattle.undo_log.proofs.Done.{remembered_behind, can_remember_lem, marked_refuse, marked_work}

-- ---- what marks rest on is as it was

module _ (C D : Cols) (h : Behind C D) where
  pub behind_kept : Kept C D
  unfolding mark_count
  behind_kept =
      record {
        marks = h.marks;
        numbers = h.words mark_number (omega arith);
        places = h.words mark_place (omega arith);
        counts = h.words mark_counts (omega arith);
        regions = h.regions;
        results = h.results;
        arguments = h.arguments;
      }

  pub behind_journal : journal_of D ≡ journal_of C
  unfolding journal_of mark_count entry_count entry_at at
  behind_journal =
      λ z. cond (eqb (h.marks z) 0) []
      (tabulate (get_or (h.words journal_counts (omega arith) z) 0 0)
      (λ (i : ℕ).
      entry_from
      (get_or (h.words journal_sort (omega arith) z) i 0)
      (get_or (h.words journal_owner (omega arith) z) i 0)
      (get_or (h.words journal_key (omega arith) z) i 0)
      (get_or (h.words journal_kind (omega arith) z) i 0)
      (get_or (h.words journal_content (omega arith) z) i 0)))

  pub behind_entries : entry_count D ≡ entry_count C
  unfolding entry_count at
  behind_entries = ap (λ (xs : List ℕ). get_or xs 0 0) (h.words journal_counts (omega arith))

  pub behind_replaced : replaced_count D ≡ replaced_count C
  unfolding replaced_count at
  behind_replaced = ap (λ (xs : List ℕ). get_or xs 1 0) (h.words journal_counts (omega arith))

-- ---- the call

module _ (b : List ℕ) (h : IsLent b) (exit : List ℕ) (c : Call) (r : Built) (did : Performs b exit c r) where
  abbrev C : Cols
  C = columns b

  abbrev D : Cols
  D = columns exit

  abbrev s : Store
  s = store_of C

  none_remembered : can_remember (marked_in b) c ≡ true → remembered_in (rows_of C) (journal_of C) (entries_for s c) ≡ journal_of C → PerformsMarked b exit (build c) r
  unfolding answer built answer_by store_by
  none_remembered can same = go (first_failed (tests s c)) refl
    where
      go : (o : Option Cause) → first_failed (tests s c) ≡ o → PerformsMarked b exit (build c) r
      go (Some cause) e =
          let q : r ≡ refused cause = did.answered ∙ ap (λ (o : Option Cause). answer_by o s c) e in
          subst (λ (x : List ℕ). PerformsMarked b x (build c) r) (sym (did.unchanged cause q)) (marked_refuse b h c r cause e q)
      go None e =
          let journal = behind_journal C D did.behind in
          marked_work b h c e can exit
          (did.reads ∙ ap (λ (o : Option Cause). store_by o s c) e)
          did.sound
          (behind_kept C D did.behind)
          (journal ∙ sym same)
          (λ l. behind_replaced C D did.behind ∙ held_counted C l (lent_facts b h).holds ∙ ap replaced_in (sym journal))
          r
          (did.answered ∙ ap (λ (o : Option Cause). answer_by o s c) e)

  pub unmarked_call : mark_count C ≡ 0 → PerformsMarked b exit (build c) r
  unfolding rows_of tabulate tabulate_from remembered_in replaced_in
  unmarked_call e =
      none_remembered
      (can_remember_lem b h c ∙ or_right (not (replaces s c)) _ (ap (λ (es : List Entry). ltb (replaced_in es) max_remembered) (no_journal C e)))
      (ap (λ (n : ℕ). remembered_in (tabulate n (row_at C)) (journal_of C) (entries_for s c)) e ∙ sym (no_journal C e))

  pub adding_call : replaces s c ≡ false → entries_for s c ≡ [] → PerformsMarked b exit (build c) r
  unfolding rows_of
  adding_call new empty = go (mark_count C) refl
    where
      go : (n : ℕ) → mark_count C ≡ n → PerformsMarked b exit (build c) r
      go zero e = unmarked_call e
      go (suc n) e =
          none_remembered
          (can_remember_lem b h c ∙ or_left _ (ltb (replaced_in (journal_of C)) max_remembered) (ap not new))
          (remembered_behind (mark_count C) (row_at C) (journal_of C) (entries_for s c) (omega arith) ∙ ap (λ (es : List Entry). journal_of C ++ es) empty ∙ append-nil (journal_of C))
