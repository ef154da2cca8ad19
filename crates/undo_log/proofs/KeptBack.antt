-- Going back to a mark keeps the journal sound: the rows up to it read as they did, and behind it there is nothing to undo. Assumes nothing.
use Prim.Native.Nat.{ℕ, ◌≤◌}
use native.Mathlib.Omega.{arith}
use mathlib.Core.Bool.{Bool, true, false, cond, ◌||◌}
use mathlib.Core.List.{List, [], ◌∷◌, Memᴰ}
use mathlib.Core.Path.{◌≡◌, refl, sym, ap, ap₂, subst, subst₂, ◌∙◌}
use lib.ListN.{length, take, drop, drop_of_length-le}
use lib.Seq.{take-take, length-take-le}
use Rattle.std.specs.List.{list_any}
use Rattle.rules.specs.Store.{Store, sound}
use Rattle.rules.proofs.Basics.Tests.{or_false_left, or_false_right, or_neither, clash}
use Rattle.layout.specs.Journal.{Entry, undone_all, Counts, counts_of, counts_within, no_counts, MarkRow, snapshot_of, row_has_number, rows_up_to, row_or, journaled_back, undoable_all, store_before, journal_before, none_older, journal_sound}
use Rattle.undo_log.specs.JournalLaws.{BackSound}
use Rattle.undo_log.proofs.CountsWithin.{counts_undone, counts_reached}
use Rattle.undo_log.proofs.MarkRows.{Rising, Numbered, Back, Steps, facts, sound_of, row_at_lem, found, rising_up_to}
use Rattle.undo_log.proofs.Replaced.{replaced_take}
use Rattle.undo_log.proofs.ReadBack.{back_snapshot}

unset_up_to : (j k : ℕ) (rs : List MarkRow) → list_any (row_has_number j) rs ≡ false → list_any (row_has_number j) (rows_up_to k rs) ≡ false
unfolding rows_up_to
unset_up_to j k [] h = refl
unset_up_to j k (r ∷ rs) h =
    or_neither (row_has_number j r) _ (or_false_left (row_has_number j r) (list_any (row_has_number j) rs) h)
    (go (row_has_number k r) (unset_up_to j k rs (or_false_right (row_has_number j r) (list_any (row_has_number j) rs) h)))
  where
    go : (b : Bool) → list_any (row_has_number j) (rows_up_to k rs) ≡ false → list_any (row_has_number j) (cond b [] (rows_up_to k rs)) ≡ false
    go true e = refl
    go false e = e

numbered_up_to : (k : ℕ) (rs : List MarkRow) → Numbered rs → Numbered (rows_up_to k rs)
unfolding rows_up_to
numbered_up_to k [] p = tt
numbered_up_to k (r ∷ rs) p = go (row_has_number k r) (numbered_up_to k rs p.2)
  where
    go : (b : Bool) → Numbered (rows_up_to k rs) → Numbered (r ∷ cond b [] (rows_up_to k rs))
    go true q = (p.0, refl, tt)
    go false q = (p.0, unset_up_to r.number k rs p.1, q)

oldest_up_to : (k : ℕ) (journal : List Entry) (n : ℕ) (rs : List MarkRow) → list_any (row_has_number k) rs ≡ true → none_older rs journal ≡ true
    → none_older (rows_up_to k rs) (take n journal) ≡ true
unfolding rows_up_to none_older
oldest_up_to k journal n [] h o = clash h refl
oldest_up_to k journal n (r ∷ rs) h o = o

-- ---- the steps up to the mark

module _ (s : Store) (journal : List Entry) (k : ℕ) (r : MarkRow) where
  -- the journal and the tables from now on
  abbrev left : List Entry
  left = take r.place journal

  abbrev then : Store
  then = snapshot_of s journal r

  -- a row that reads then as it does now
  abbrev Seen : List MarkRow → Type 0
  Seen rs = (q : MarkRow) → Memᴰ q rs → (take q.place left ≡ take q.place journal) × (snapshot_of then left q ≡ snapshot_of s journal q)

  back_up_to : (q : MarkRow) (rs : List MarkRow) → list_any (row_has_number k) rs ≡ true → Seen (rows_up_to k rs) → Back s journal q rs → Back then left q (rows_up_to k rs)
  unfolding rows_up_to store_before journal_before
  back_up_to q [] h seen g = clash h refl
  back_up_to q (p ∷ ps) h seen g =
      let z = seen p (Memᴰ.head refl) in
      ap₂ (λ (es : List Entry) (t : Store). undoable_all (drop q.place es) t) z.0 z.1 ∙ g

  -- behind the mark there is nothing to undo
  back_end : (q : MarkRow) → r.place ≤ length journal → q ≡ r → Back then left q []
  unfolding store_before journal_before undoable_all
  back_end q l e =
      let short : length left ≤ r.place = omega (arith, length-take-le r.place journal l) in
      let none : drop r.place left ≡ [] = drop_of_length-le left short in
      ap (λ (z : MarkRow). undoable_all (drop z.place left) then) e ∙ ap (λ (es : List Entry). undoable_all es then) none

  steps_up_to : (other : MarkRow) (rs : List MarkRow) → r.place ≤ length journal → list_any (row_has_number k) rs ≡ true → row_or other k rs ≡ r → Seen (rows_up_to k rs) → Steps s journal rs
      → Steps then left (rows_up_to k rs)
  unfolding row_or rows_up_to
  steps_up_to other [] l h e seen g = clash h refl
  steps_up_to other (q ∷ qs) l h e seen g = go (row_has_number k q) h e seen (λ h' e' seen'. steps_up_to other qs l h' e' seen' g.2)
    where
      go : (b : Bool) → (b || list_any (row_has_number k) qs) ≡ true → cond b q (row_or other k qs) ≡ r → Seen (q ∷ cond b [] (rows_up_to k qs))
          → (list_any (row_has_number k) qs ≡ true → row_or other k qs ≡ r → Seen (rows_up_to k qs) → Steps then left (rows_up_to k qs))
          → Steps then left (q ∷ cond b [] (rows_up_to k qs))
      go true h' e' seen' rest = (back_end q l e', ap sound (seen' q (Memᴰ.head refl)).1 ∙ g.1, tt)
      go false h' e' seen' rest =
          let later : Seen (rows_up_to k qs) = λ p m. seen' p (Memᴰ.tail m) in
          (back_up_to q qs h' later g.0, ap sound (seen' q (Memᴰ.head refl)).1 ∙ g.1, rest h' e' later)

-- what is sound at each mark
pub sound_at : {r : MarkRow} (s : Store) (journal : List Entry) (rs : List MarkRow) → Steps s journal rs → Memᴰ r rs → sound (snapshot_of s journal r) ≡ true
sound_at s journal rs g (Memᴰ.head {x = q} {xs = qs} e) = ap (λ (z : MarkRow). sound (snapshot_of s journal z)) e ∙ g.1
sound_at s journal rs g (Memᴰ.tail {x = q} {xs = qs} m) = sound_at s journal qs g.2 m

-- as many of everything as were counted
pub counts_then : (s : Store) (journal : List Entry) (r : MarkRow) → counts_within r.counts (counts_of s) ≡ true → counts_of (snapshot_of s journal r) ≡ r.counts
unfolding snapshot_of
counts_then s journal r w =
    let younger = drop r.place journal in
    counts_reached r.counts (undone_all younger s) (subst (λ (c : Counts). counts_within r.counts c ≡ true) (sym (counts_undone younger s)) w)

pub back_sound_lem : BackSound
unfolding BackSound journaled_back
back_sound_lem j k h set other =
    let s = j.store in
    let r = row_or other k j.rows in
    let f = facts j h in
    let z = found other k j.rows set in
    let b = row_at_lem 0 no_counts (length j.journal) (counts_of s) j.rows f.rising z.0 in
    let rises : Rising 0 no_counts r.place r.counts (rows_up_to k j.rows) = rising_up_to other k 0 no_counts _ _ j.rows set f.rising in
    let seen : Seen s j.journal k r (rows_up_to k j.rows) =
    λ q m. let c = row_at_lem 0 no_counts r.place r.counts _ rises m in (take-take q.place r.place j.journal c.to, back_snapshot s j.journal r b.to q c.to c.fewer) in
    subst (λ (n : ℕ). journal_sound (record { store = snapshot_of s j.journal r; journal = take r.place j.journal; rows = rows_up_to n j.rows }) ≡ true) (sym z.1)
    (sound_of _
    (record {
      now = sound_at s j.journal j.rows f.steps z.0;
      rising = subst₂ (λ (n : ℕ) (c : Counts). Rising 0 no_counts n c (rows_up_to k j.rows)) (sym (length-take-le r.place j.journal b.to)) (sym (counts_then s j.journal r b.fewer)) rises;
      numbered = numbered_up_to k j.rows f.numbered;
      oldest = oldest_up_to k j.journal r.place j.rows set f.oldest;
      few = omega (arith, replaced_take r.place j.journal, f.few);
      steps = steps_up_to s j.journal k r other j.rows b.to set refl seen f.steps;
    }))
