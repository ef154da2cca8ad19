-- A copy on the journal: cutting takes it away, so each mark reads as it did, as the rules' call leaves it; and an accepted one keeps the journal
-- sound. Assumes nothing.
use Prim.Native.Nat.{ℕ, ◌≤◌}
use native.Mathlib.Omega.{arith}
use mathlib.Core.Bool.{true}
use mathlib.Core.List.{List, [], ◌∷◌, map, append-nil}
use Rattle.std.specs.Prelude.{Option}
use mathlib.Core.Path.{◌≡◌, refl, sym, ap, ap₂, subst, ◌∙◌}
use lib.ListN.{length, drop}
use lib.Seq.{take-append_seam}
use Rattle.rules.specs.Store.{Store}
use Rattle.rules.specs.Copying.{copied, copy_tests}
use Rattle.rules.specs.CopyLaws as laws
use Rattle.rules.specs.Marks.{marked_tests, marked_applied}
use Rattle.rules.proofs.Soundness.Accepted.{first_failed_none, all_passed}
use Rattle.rules.proofs.Copying.Kept as kept
use Rattle.layout.specs.Journal.{Entry, undone_all, Counts, counts_of, cut_to, counts_within, no_counts, replaced_in, MarkRow, snapshot_of, mark_of, marked_of, journaled_copy, undoable_all}
use Rattle.undo_log.specs.JournalLaws.{CopyUndone, CopyRead, CopySound}
use Rattle.undo_log.proofs.Undone.{cut_new}
use Rattle.undo_log.proofs.MarkRows.{Rising, Steps, facts, sound_of, rising_end, rising_to}
use Rattle.undo_log.proofs.Grown.{grown_counts, grown_snapshot, grown_steps}

pub copy_undone : CopyUndone
unfolding CopyUndone copied
copy_undone s n place =
    cut_new s (copied s n place) (take-append_seam s.ops _) (take-append_seam s.blocks _) (take-append_seam s.regions _) (take-append_seam s.values _)

module _ (s : Store) (n : ℕ) (place : Option ℕ) where
  abbrev with : Store
  with = copied s n place

  copy_cut : cut_to (counts_of s) (undone_all [] with) ≡ s
  unfolding undone_all CopyUndone
  copy_cut = copy_undone s n place

  module _ (journal : List Entry) where
    pub copy_snapshot : (r : MarkRow) → r.place ≤ length journal → counts_within r.counts (counts_of s) ≡ true → snapshot_of with journal r ≡ snapshot_of s journal r
    copy_snapshot r l w = ap (λ (es : List Entry). snapshot_of with es r) (sym (append-nil journal)) ∙ grown_snapshot s with [] copy_cut journal r l w

    copy_marks : (from : ℕ) (counts : Counts) (rs : List MarkRow) → Rising from counts (length journal) (counts_of s) rs
        → map (mark_of with journal) rs ≡ map (mark_of s journal) rs
    unfolding mark_of
    copy_marks from counts [] p = refl
    copy_marks from counts (r ∷ rs) p =
        let z = rising_end r.place r.counts (length journal) (counts_of s) rs p.2 in
        ap₂ ◌∷◌ (λ i. record { number = r.number; snapshot = copy_snapshot r z.0 z.1 i; since = replaced_in (drop r.place journal) })
        (copy_marks r.place r.counts rs p.2)

    copy_steps : (rs : List MarkRow) → Rising 0 no_counts (length journal) (counts_of s) rs → Steps s journal rs → Steps with journal rs
    unfolding undoable_all
    copy_steps rs p g = subst (λ (es : List Entry). Steps with es rs) (append-nil journal) (grown_steps s with [] copy_cut refl journal 0 no_counts rs p g)

pub copy_read : CopyRead
unfolding CopyRead marked_of journaled_copy marked_applied
copy_read j ok n place h =
    λ i. record { store = copied j.store n place; marks = copy_marks j.store n place j.journal 0 no_counts j.rows (facts j h).rising i }

pub copy_sound : CopySound
unfolding CopySound laws.CopySound journaled_copy marked_of marked_tests
copy_sound j ok n place h c =
    let s = j.store in
    let k = facts j h in
    sound_of (journaled_copy j n place)
    (record {
      now = kept.copy_sound s k.now n place (all_passed (copy_tests s n place) (first_failed_none _ c).1);
      rising = rising_to 0 no_counts _ _ (counts_of s) _ j.rows (omega arith) (grown_counts s (copied s n place) [] (copy_cut s n place)) k.rising;
      numbered = k.numbered;
      oldest = k.oldest;
      few = k.few;
      steps = copy_steps s n place j.journal j.rows k.rising k.steps;
    })
