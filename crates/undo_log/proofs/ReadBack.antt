-- Going back by the journal does to the marks that are read what the rules' call does. Assumes nothing.
use Prim.Native.Nat.{ℕ, ◌+◌, ◌-◌, ◌≤◌}
use native.Mathlib.Omega.{arith}
use mathlib.Core.Bool.{Bool, true, false, cond, ◌||◌}
use mathlib.Core.List.{List, [], ◌∷◌, map}
use mathlib.Core.Path.{◌≡◌, refl, sym, ap, subst, ◌∙◌}
use lib.ListN.{length, take, drop}
use Rattle.std.specs.List.{list_any}
use Rattle.rules.specs.Store.{Store}
use Rattle.rules.specs.Marks.{Mark, has_number, with_since, recounted, up_to, mark_or, new_mark, gone_back, marked_applied}
use Rattle.rules.proofs.Basics.Tests.{clash}
use Rattle.rules.proofs.Basics.Cut.{drop_parts}
use Rattle.layout.specs.Journal.{Entry, undone_all, cut_to, counts_within, no_counts, replaced_in, MarkRow, Journaled, snapshot_of, mark_of, marked_of, row_has_number, rows_up_to, row_or, journaled_back}
use Rattle.undo_log.specs.JournalLaws.{CutCommutesAll, CutTwice, UndoneParts, BackRead}
use Rattle.undo_log.proofs.CutJournal.{cut_commutes_all, cut_twice, undone_parts}
use Rattle.undo_log.proofs.MarkRows.{Rising, row_at_lem, found, rising_up_to, Facts, facts}
use Rattle.undo_log.proofs.Replaced.{replaced_append, map_recounted}

-- a mark that is no younger than r, read from where r was set
module _ (s : Store) (journal : List Entry) (r : MarkRow) (l : r.place ≤ length journal) where
  pub back_snapshot : (q : MarkRow) → q.place ≤ r.place → counts_within q.counts r.counts ≡ true
      → snapshot_of (snapshot_of s journal r) (take r.place journal) q ≡ snapshot_of s journal q
  unfolding snapshot_of CutTwice UndoneParts CutCommutesAll
  back_snapshot q m w =
      let older = drop q.place (take r.place journal) in
      let younger = drop r.place journal in
      ap (cut_to q.counts) (sym (cut_commutes_all older r.counts (undone_all younger s)))
      ∙ cut_twice q.counts r.counts (undone_all older (undone_all younger s)) w
      ∙ ap (cut_to q.counts) (sym (undone_parts older younger s))
      ∙ ap (λ (es : List Entry). cut_to q.counts (undone_all es s)) (sym (drop_parts q.place r.place journal m l))

  back_since : (q : MarkRow) → q.place ≤ r.place
      → replaced_in (drop q.place (take r.place journal)) ≡ replaced_in (drop q.place journal) - replaced_in (drop r.place journal)
  back_since q m =
      let older = drop q.place (take r.place journal) in
      let younger = drop r.place journal in
      let e : replaced_in (drop q.place journal) ≡ replaced_in older + replaced_in younger = ap replaced_in (drop_parts q.place r.place journal m l) ∙ replaced_append older younger in
      omega arith

  back_mark : (q : MarkRow) → q.place ≤ r.place → counts_within q.counts r.counts ≡ true
      → mark_of (snapshot_of s journal r) (take r.place journal) q
      ≡ with_since ((mark_of s journal q).since - (mark_of s journal r).since) (mark_of s journal q)
  unfolding mark_of with_since
  back_mark q m w = λ i. record { number = q.number; snapshot = back_snapshot q m w i; since = back_since q m i }

up_to_read : (s : Store) (journal : List Entry) (k : ℕ) (rs : List MarkRow) → map (mark_of s journal) (rows_up_to k rs) ≡ up_to k (map (mark_of s journal) rs)
unfolding rows_up_to up_to row_has_number has_number mark_of
up_to_read s journal k [] = refl
up_to_read s journal k (r ∷ rs) = ap (λ (ms : List Mark). mark_of s journal r ∷ ms) (go (row_has_number k r) (up_to_read s journal k rs))
  where
    go : (b : Bool) → map (mark_of s journal) (rows_up_to k rs) ≡ up_to k (map (mark_of s journal) rs)
        → map (mark_of s journal) (cond b [] (rows_up_to k rs)) ≡ cond b [] (up_to k (map (mark_of s journal) rs))
    go true e = refl
    go false e = e

or_read : (s : Store) (journal : List Entry) (other : MarkRow) (m : Mark) (k : ℕ) (rs : List MarkRow) → list_any (row_has_number k) rs ≡ true
    → mark_or m k (map (mark_of s journal) rs) ≡ mark_of s journal (row_or other k rs)
unfolding row_or mark_or row_has_number has_number mark_of
or_read s journal other m k [] h = clash h refl
or_read s journal other m k (r ∷ rs) h = go (row_has_number k r) h (or_read s journal other m k rs)
  where
    go : (b : Bool) → (b || list_any (row_has_number k) rs) ≡ true → (list_any (row_has_number k) rs ≡ true → mark_or m k (map (mark_of s journal) rs) ≡ mark_of s journal (row_or other k rs))
        → cond b (mark_of s journal r) (mark_or m k (map (mark_of s journal) rs)) ≡ mark_of s journal (cond b r (row_or other k rs))
    go true e f = refl
    go false e f = f e

-- the rows up to the mark of a number that is set
up_to_rising : (j : Journaled) → Facts j → (k : ℕ) → list_any (row_has_number k) j.rows ≡ true → (other : MarkRow)
    → let r = row_or other k j.rows in Rising 0 no_counts r.place r.counts (rows_up_to r.number j.rows)
up_to_rising j f k set other =
    let r = row_or other k j.rows in
    subst (λ (n : ℕ). Rising 0 no_counts r.place r.counts (rows_up_to n j.rows)) (sym (found other k j.rows set).1)
    (rising_up_to other k 0 no_counts _ _ j.rows set f.rising)

pub back_read : BackRead
unfolding BackRead journaled_back marked_of marked_applied gone_back mark_of
back_read j k h set other =
    let s = j.store in
    let r = row_or other k j.rows in
    let f = facts j h in
    let l : r.place ≤ length j.journal = (row_at_lem 0 no_counts _ _ j.rows f.rising (found other k j.rows set).0).to in
    let rises = up_to_rising j f k set other in
    ap (λ (ms : List Mark). record { store = snapshot_of s j.journal r; marks = ms })
    (map_recounted _ (mark_of s j.journal) _ (rows_up_to r.number j.rows)
    (λ q m. let b = row_at_lem 0 no_counts r.place r.counts _ rises m in back_mark s j.journal r l q b.to b.fewer)
    ∙ ap (recounted _) (up_to_read s j.journal r.number j.rows))
    ∙ sym (ap (λ (m : Mark). gone_back m (marked_of j)) (or_read s j.journal other (new_mark k s) k j.rows set))
