-- A call on a lent buffer that refuses by the first test that fails and changes nothing, or passes them all and leaves words that are read as
-- the journal's step, does what a call has to. Assumes nothing.
use Rattle.rules.specs.declared.types.Cause.{Cause}
use Prim.Native.Nat.{ℕ, ◌≤◌}
use native.Mathlib.Omega.{arith}
use mathlib.Core.Bool.{true}
use mathlib.Core.List.{List}
use Rattle.std.specs.Prelude.{Option, None, Some}
use mathlib.Core.Path.{◌≡◌, refl, sym, ap, ◌∙◌}
use Rattle.rules.specs.Store.{Store}
use Rattle.rules.specs.Building.{Built, Call, new_operation, new_block, set_attribute, set_operand, refused, acceptance, first_failed}
use Rattle.rules.specs.Marks.{MarkedStore, MarkedCall, max_marks, build, set_mark, go_back, copy, marked_tests, marked_applied, marked_acceptance, marked_answer_by, marked_by, marked_answer, marked}
use Rattle.layout.specs.Columns.{columns}
use Rattle.layout.specs.Soundness.{IsSound}
use Rattle.layout.specs.Journal.{Journaled, marked_of, journal_sound}
use Rattle.layout.specs.MarkedReading.{mark_count, journaled_of, journal_holds, marked_in, IsLent}
use Rattle.undo_log.specs.MarkedCalls.{PerformsMarked}
use Rattle.undo_log.proofs.Lent.{lent_of}

-- an accepted call is not refused
built_never : (s : Store) (c : Call) (cause : Cause) → acceptance s c ≡ refused cause → ⊥
unfolding acceptance
built_never s (new_operation o) cause h = let z : ◌≡◌ {A = ℕ} 0 1 = cc in omega arith
built_never s (new_block b) cause h = let z : ◌≡◌ {A = ℕ} 0 1 = cc in omega arith
built_never s (set_attribute w a) cause h = let z : ◌≡◌ {A = ℕ} 0 1 = cc in omega arith
built_never s (set_operand u) cause h = let z : ◌≡◌ {A = ℕ} 0 1 = cc in omega arith

never : (t : MarkedStore) (c : MarkedCall) (cause : Cause) → marked_acceptance t c ≡ refused cause → ⊥
unfolding marked_acceptance
never t (build c) cause h = built_never t.store c cause h
never t (set_mark k) cause h = let z : ◌≡◌ {A = ℕ} 0 1 = cc in omega arith
never t (go_back k) cause h = let z : ◌≡◌ {A = ℕ} 0 1 = cc in omega arith
never t (copy ok n place) cause h = let z : ◌≡◌ {A = ℕ} 0 1 = cc in omega arith

module _ (b : List ℕ) (c : MarkedCall) (r : Built) where
  pub marked_refuse : IsLent b → (cause : Cause) → first_failed (marked_tests (marked_in b) c) ≡ Some cause → r ≡ refused cause → PerformsMarked b b c r
  unfolding marked_answer marked marked_answer_by marked_by
  marked_refuse h cause e q =
      record {
        answered = q ∙ sym (ap (λ (o : Option Cause). marked_answer_by o (marked_in b) c) e);
        reads = sym (ap (λ (o : Option Cause). marked_by o (marked_in b) c) e);
        sound = h;
        unchanged = λ k z. refl;
      }

  pub marked_work : (exit : List ℕ) (j : Journaled) → first_failed (marked_tests (marked_in b) c) ≡ None → journaled_of (columns exit) ≡ j
      → marked_of j ≡ marked_applied (marked_of (journaled_of (columns b))) c → journal_sound j ≡ true → mark_count (columns exit) ≤ max_marks
      → journal_holds (columns exit) ≡ true → IsSound exit → r ≡ marked_acceptance (marked_in b) c → PerformsMarked b exit c r
  unfolding marked_answer marked marked_answer_by marked_by
  marked_work exit j e step reads journal few holds tables q =
      record {
        answered = q ∙ sym (ap (λ (o : Option Cause). marked_answer_by o (marked_in b) c) e);
        reads = ap marked_of step ∙ reads ∙ sym (ap (λ (o : Option Cause). marked_by o (marked_in b) c) e);
        sound = lent_of exit (record { tables = tables; few = few; holds = holds; journal = ap journal_sound step ∙ journal });
        unchanged = λ k z. absurd (never (marked_in b) c k (sym q ∙ z));
      }
