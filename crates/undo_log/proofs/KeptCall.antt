-- An accepted building call keeps the journal sound. Assumes nothing.
use Prim.Native.Nat.{ℕ, ◌+◌, ◌<◌, ◌≤◌}
use native.Mathlib.Omega.{arith}
use mathlib.Core.Bool.{Bool, true, false, cond, not, ◌||◌}
use Rattle.std.specs.Prelude.{None}
use mathlib.Core.List.{List, [], ◌∷◌, ◌++◌}
use mathlib.Core.Path.{◌≡◌, refl, sym, subst, ◌∙◌}
use borrow.Author.Tests.{ltb-true}
use lib.Dec.{ltb}
use lib.ListN.{length, length-append}
use Rattle.rules.specs.Store.{Store, sound}
use Rattle.rules.specs.Building.{Call, tests, first_failed, applied}
use Rattle.rules.specs.Marks.{build, replaces, max_remembered, can_remember, marked_tests}
use Rattle.rules.proofs.Soundness.Sound.{facts as store_facts, sound_of as store_sound}
use Rattle.rules.proofs.Soundness.Accepted.{first_failed_none, all_passed}
use Rattle.rules.proofs.Soundness.Kept.{applied_sound}
use Rattle.rules.proofs.Marks.Accepted.{passed_both}
use Rattle.layout.specs.Journal.{Entry, Counts, counts_of, no_counts, entries_for, replaced_in, MarkRow, marked_of, remembered_in, journaled_call, none_older}
use Rattle.undo_log.specs.JournalLaws.{CallUndoable, TestsRead, CallSound}
use Rattle.undo_log.proofs.CountsWithin.{within_none}
use Rattle.undo_log.proofs.Undone.{call_undoable}
use Rattle.undo_log.proofs.MarkRows.{Rising, Steps, facts, sound_of, rising_to}
use Rattle.undo_log.proofs.Replaced.{replaced_append, replaced_by}
use Rattle.undo_log.proofs.ReadCall.{call_cut}
use Rattle.undo_log.proofs.ReadTests.{tests_read}
use Rattle.undo_log.proofs.Grown.{grown_counts, grown_steps}

module _ (s : Store) (c : Call) (h : sound s ≡ true) (f : first_failed (tests s c) ≡ None) where
  abbrev entries : List Entry
  entries = entries_for s c

  module _ (journal : List Entry) where
    steps_called : (place : ℕ) (counts : Counts) (rs : List MarkRow) → Rising place counts (length journal) (counts_of s) rs → Steps s journal rs
        → Steps (applied s c) (journal ++ entries) rs
    unfolding CallUndoable
    steps_called = grown_steps s (applied s c) entries (call_cut s c h f) (call_undoable s c h f) journal

    -- ---- with no mark set none is remembered

    called_rising : (rs : List MarkRow) → Rising 0 no_counts (length journal) (counts_of s) rs
        → Rising 0 no_counts (length (remembered_in rs journal entries)) (counts_of (applied s c)) rs
    unfolding remembered_in
    called_rising [] p = (omega arith, within_none (counts_of (applied s c)))
    called_rising (r ∷ rs) p = rising_to 0 no_counts (length journal) _ (counts_of s) _ (r ∷ rs) (omega (arith, length-append journal entries)) (grown_counts s (applied s c) entries (call_cut s c h f)) p

    called_steps : (rs : List MarkRow) → Rising 0 no_counts (length journal) (counts_of s) rs → Steps s journal rs
        → Steps (applied s c) (remembered_in rs journal entries) rs
    unfolding remembered_in
    called_steps [] p g = tt
    called_steps (r ∷ rs) p g = steps_called 0 no_counts (r ∷ rs) p g

    called_oldest : (rs : List MarkRow) → none_older rs journal ≡ true → none_older rs (remembered_in rs journal entries) ≡ true
    unfolding remembered_in none_older
    called_oldest [] o = refl
    called_oldest (r ∷ rs) o = o

    called_few : (rs : List MarkRow) → (not (replaces s c) || ltb (replaced_in journal) max_remembered) ≡ true → replaced_in journal ≤ max_remembered
        → replaced_in (remembered_in rs journal entries) ≤ max_remembered
    unfolding remembered_in replaced_in
    called_few [] t l = omega arith
    called_few (r ∷ rs) t l =
        subst (λ (n : ℕ). n ≤ max_remembered) (sym (replaced_append journal entries ∙ replaced_by s c (replaced_in journal))) (go (replaces s c) t)
      where
        go : (b : Bool) → (not b || ltb (replaced_in journal) max_remembered) ≡ true → cond b (replaced_in journal + 1) (replaced_in journal) ≤ max_remembered
        go true u = let m : replaced_in journal < max_remembered = ltb-true (replaced_in journal) max_remembered u in omega arith
        go false u = l

pub call_sound : CallSound
unfolding CallSound journaled_call marked_of marked_tests can_remember TestsRead
call_sound j c h f =
    let s = j.store in
    let p = passed_both (tests s c) _ (first_failed_none (marked_tests (marked_of j) (build c)) f) in
    let accepted = all_passed (tests s c) p.0 in
    let k = facts j h in
    let room = subst (λ (n : ℕ). (not (replaces s c) || ltb n max_remembered) ≡ true) ((tests_read j).1 h) p.1.0 in
    sound_of (journaled_call j c)
    (record {
      now = store_sound (applied s c) (applied_sound s c (store_facts s k.now) p.0);
      rising = called_rising s c k.now accepted j.journal j.rows k.rising;
      numbered = k.numbered;
      oldest = called_oldest s c k.now accepted j.journal j.rows k.oldest;
      few = called_few s c k.now accepted j.journal j.rows room k.few;
      steps = called_steps s c k.now accepted j.journal j.rows k.rising k.steps;
    })
