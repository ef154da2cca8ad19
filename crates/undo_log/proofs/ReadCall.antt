-- An accepted building call on the journal does to the marks that are read what the rules' call does: what is remembered of it undoes it
-- first. Assumes nothing.
use Prim.Native.Nat.{ℕ, ◌+◌, ◌≤◌}
use mathlib.Core.Bool.{true, cond}
use Rattle.std.specs.Prelude.{None}
use mathlib.Core.List.{List, [], ◌∷◌, ◌++◌, map}
use mathlib.Core.Path.{◌≡◌, refl, ap, ◌∙◌}
use lib.ListN.{length, drop}
use lib.Seq.{drop-append-le}
use Rattle.rules.specs.Store.{Store, sound}
use Rattle.rules.specs.Building.{Call, tests, first_failed, applied}
use Rattle.rules.specs.Marks.{replaces, with_since, recounted, replaced_once, marked_applied}
use Rattle.layout.specs.Journal.{Entry, undone_all, counts_of, cut_to, counts_within, no_counts, entries_for, replaced_in, MarkRow, snapshot_of, mark_of, marked_of, remembered_in, journaled_call}
use Rattle.undo_log.specs.JournalLaws.{CutCommutesAll, CallUndone, CallRead}
use Rattle.undo_log.proofs.CutJournal.{cut_commutes_all}
use Rattle.undo_log.proofs.Undone.{call_undone}
use Rattle.undo_log.proofs.MarkRows.{Rising, Between, row_at_lem, facts}
use Rattle.undo_log.proofs.Replaced.{replaced_append, replaced_by, map_recounted}
use Rattle.undo_log.proofs.Grown.{grown_snapshot}

module _ (s : Store) (c : Call) (h : sound s ≡ true) (f : first_failed (tests s c) ≡ None) where
  pub call_cut : cut_to (counts_of s) (undone_all (entries_for s c) (applied s c)) ≡ s
  unfolding CutCommutesAll CallUndone
  call_cut = cut_commutes_all (entries_for s c) (counts_of s) (applied s c) ∙ call_undone s c h f

  pub call_snapshot : (journal : List Entry) (r : MarkRow) → r.place ≤ length journal → counts_within r.counts (counts_of s) ≡ true
      → snapshot_of (applied s c) (journal ++ entries_for s c) r ≡ snapshot_of s journal r
  call_snapshot = grown_snapshot s (applied s c) (entries_for s c) call_cut

-- each mark, of which one replacement more may lie behind it
call_marks : (s : Store) (c : Call) → sound s ≡ true → first_failed (tests s c) ≡ None → (journal : List Entry) (rs : List MarkRow)
    → Rising 0 no_counts (length journal) (counts_of s) rs
    → map (mark_of (applied s c) (remembered_in rs journal (entries_for s c))) rs ≡ replaced_once (replaces s c) (map (mark_of s journal) rs)
unfolding remembered_in replaced_once recounted with_since mark_of
call_marks s c h f journal [] p = refl
call_marks s c h f journal (q ∷ qs) p = map_recounted _ (mark_of s journal) (λ (n : ℕ). cond (replaces s c) (n + 1) n) (q ∷ qs) (λ r m. mark r (row_at_lem 0 no_counts (length journal) (counts_of s) (q ∷ qs) p m))
  where
    mark : (r : MarkRow) → Between 0 no_counts (length journal) (counts_of s) r
        → mark_of (applied s c) (journal ++ entries_for s c) r
        ≡ with_since (cond (replaces s c) ((mark_of s journal r).since + 1) (mark_of s journal r).since) (mark_of s journal r)
    mark r b =
        λ i. record {
          number = r.number;
          snapshot = call_snapshot s c h f journal r b.to b.fewer i;
          since = (ap replaced_in (drop-append-le r.place journal (entries_for s c) b.to) ∙ replaced_append (drop r.place journal) (entries_for s c) ∙ replaced_by s c _) i;
        }

pub call_read : CallRead
unfolding CallRead marked_of journaled_call marked_applied
call_read j c h f =
    let k = facts j h in
    λ i. record { store = applied j.store c; marks = call_marks j.store c k.now f j.journal j.rows k.rising i }
