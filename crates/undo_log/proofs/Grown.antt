-- A store that grew: where what is remembered of the change is undone and the rest cut, it is the store of before. Then every mark reads as it did,
-- and every step back can be made. A building call is such a change; a copy is one too, of which nothing is remembered. Assumes nothing.
use Prim.Native.Nat.{ℕ, ◌≤◌}
use mathlib.Core.Bool.{true}
use mathlib.Core.List.{List, [], ◌∷◌, ◌++◌}
use mathlib.Core.Path.{◌≡◌, sym, ap, ap₂, subst, ◌∙◌}
use lib.ListN.{length, drop}
use lib.Seq.{take-append-le, drop-append-le}
use Rattle.rules.specs.Store.{Store, sound}
use Rattle.layout.specs.Journal.{Entry, undone_all, Counts, counts_of, cut_to, counts_within, MarkRow, snapshot_of, undoable_all, store_before, journal_before}
use Rattle.undo_log.specs.JournalLaws.{CutCommutesAll, CutTwice, UndoneParts}
use Rattle.undo_log.proofs.CountsWithin.{counts_undone, counts_cut}
use Rattle.undo_log.proofs.CutJournal.{cut_commutes_all, cut_twice, undone_parts}
use Rattle.undo_log.proofs.MarkRows.{Rising, Back, Steps, rising_end}
use Rattle.undo_log.proofs.BackSteps.{undoable_uncut_all, undoable_parts}

-- where two stores are cut to the same, what is undone in them is too
undone_cut : (k : Counts) (es : List Entry) (s t : Store) → cut_to k s ≡ cut_to k t → cut_to k (undone_all es s) ≡ cut_to k (undone_all es t)
unfolding CutCommutesAll
undone_cut k es s t e = cut_commutes_all es k s ∙ ap (undone_all es) e ∙ sym (cut_commutes_all es k t)

-- the store of before, the one that grew, and what is remembered of the change
module _ (s t : Store) (new : List Entry) (cut : cut_to (counts_of s) (undone_all new t) ≡ s) where
  -- there is no less of anything
  pub grown_counts : counts_within (counts_of s) (counts_of t) ≡ true
  grown_counts =
      let before = undone_all new t in
      subst (λ (k : Counts). counts_within k (counts_of t) ≡ true) (ap counts_of cut)
      (subst (λ (k : Counts). counts_within (counts_of (cut_to (counts_of s) before)) k ≡ true) (counts_undone new t) (counts_cut (counts_of s) before))

  pub grown_snapshot : (journal : List Entry) (r : MarkRow) → r.place ≤ length journal → counts_within r.counts (counts_of s) ≡ true
      → snapshot_of t (journal ++ new) r ≡ snapshot_of s journal r
  unfolding snapshot_of CutTwice UndoneParts
  grown_snapshot journal r l w =
      let since = drop r.place journal in
      let before = undone_all new t in
      ap (λ (es : List Entry). cut_to r.counts (undone_all es t)) (drop-append-le r.place journal new l)
      ∙ ap (cut_to r.counts) (undone_parts since new t)
      ∙ undone_cut r.counts since before s (sym (cut_twice r.counts (counts_of s) before w) ∙ ap (cut_to r.counts) cut)

  -- the older steps are as they were, and the last one undoes the change first
  module _ (can : undoable_all new t ≡ true) (journal : List Entry) where
    grown_back : (r : MarkRow) (rs : List MarkRow) → Rising r.place r.counts (length journal) (counts_of s) rs → Back s journal r rs
        → Back t (journal ++ new) r rs
    unfolding store_before journal_before
    grown_back r [] p g =
        let older = drop r.place journal in
        ap (λ (es : List Entry). undoable_all es t) (drop-append-le r.place journal new p.0)
        ∙ undoable_parts older new t can (undoable_uncut_all older (counts_of s) (undone_all new t) (ap (undoable_all older) cut ∙ g))
    grown_back r (q ∷ qs) p g =
        let z = rising_end q.place q.counts (length journal) (counts_of s) qs p.2 in
        ap₂ (λ (es : List Entry) (u : Store). undoable_all (drop r.place es) u)
        (take-append-le q.place journal new z.0) (grown_snapshot journal q z.0 z.1)
        ∙ g

    pub grown_steps : (place : ℕ) (counts : Counts) (rs : List MarkRow) → Rising place counts (length journal) (counts_of s) rs → Steps s journal rs
        → Steps t (journal ++ new) rs
    grown_steps place counts [] p g = tt
    grown_steps place counts (r ∷ rs) p g =
        let z = rising_end r.place r.counts (length journal) (counts_of s) rs p.2 in (
          grown_back r rs p.2 g.0,
          ap sound (grown_snapshot journal r z.0 z.1) ∙ g.1,
          grown_steps r.place r.counts rs p.2 g.2,
        )
