-- Setting a mark keeps the journal sound: its old row goes, a new one comes that names the present, and what is before the oldest is freed.
-- Assumes nothing.
use Prim.Native.Nat.{ℕ, ◌-◌, ◌≤◌}
use native.Mathlib.Omega.{arith}
use mathlib.Core.Bool.{Bool, true, false, cond}
use mathlib.Core.List.{List, [], ◌∷◌, ◌++◌, map, Memᴰ}
use mathlib.Core.Path.{◌≡◌, refl, sym, ap, ap₂, subst, ◌∙◌}
use borrow.Author.Tests.{eq-eqb}
use lib.Dec.{eqb}
use lib.ListN.{length, take, drop, length-drop}
use lib.Seq.{take-length, drop-length}
use Rattle.std.specs.List.{list_any, filter}
use Rattle.rules.specs.Store.{Store, sound}
use Rattle.rules.specs.Marks.{Mark, is_mark, new_mark}
use Rattle.rules.proofs.Basics.Tests.{or_neither, or_false_left, or_false_right, differ_back}
use Rattle.rules.proofs.Basics.Filtered.{any_append, any_map, none_kept, none_left}
use Rattle.rules.proofs.Basics.Cut.{drop_from, drop_take}
use Rattle.layout.specs.Journal.{Entry, Counts, counts_of, no_counts, MarkRow, snapshot_of, mark_of, row_has_number, oldest_place, placed_back, freed, rows_without, journaled_mark, undoable_all, store_before, journal_before, none_older}
use Rattle.undo_log.specs.JournalLaws.{MarkSound}
use Rattle.undo_log.proofs.CountsWithin.{within_same}
use Rattle.undo_log.proofs.MarkRows.{Rising, Numbered, Back, Steps, facts, sound_of, rising_from, rising_filter, rising_new}
use Rattle.undo_log.proofs.Replaced.{replaced_drop}
use Rattle.undo_log.proofs.ReadMark.{placed_mark, oldest_least, new_mark_lem}
use Rattle.undo_log.proofs.BackSteps.{steps_filter}

-- ---- numbers

numbered_filter : (keep : MarkRow → Bool) (rs : List MarkRow) → Numbered rs → Numbered (filter keep rs)
numbered_filter keep [] p = tt
numbered_filter keep (r ∷ rs) p = go (keep r) (numbered_filter keep rs p.2)
  where
    go : (b : Bool) → Numbered (filter keep rs) → Numbered (cond b (r ∷ filter keep rs) (filter keep rs))
    go true q = (p.0, none_kept (row_has_number r.number) keep rs p.1, q)
    go false q = q

-- a number that none has, at the end
numbered_new : (o : MarkRow) (rs : List MarkRow) → is_mark o.number ≡ true → list_any (row_has_number o.number) rs ≡ false → Numbered rs → Numbered (rs ++ (o ∷ []))
unfolding row_has_number
numbered_new o [] h u p = (h, refl, tt)
numbered_new o (r ∷ rs) h u p =
    let differs : eqb r.number o.number ≡ false = or_false_left _ (list_any (row_has_number o.number) rs) u in (
      p.0,
      any_append (row_has_number r.number) rs (o ∷ [])
          ∙ or_neither (list_any (row_has_number r.number) rs) _ p.1 (or_neither _ false (differ_back r.number o.number differs) refl),
      numbered_new o rs h (or_false_right (eqb r.number o.number) _ u) p.2,
    )

numbered_placed : (n : ℕ) (rs : List MarkRow) → Numbered rs → Numbered (map (placed_back n) rs)
unfolding placed_back row_has_number
numbered_placed n [] p = tt
numbered_placed n (r ∷ rs) p = (p.0, any_map (row_has_number r.number) (placed_back n) rs ∙ p.1, numbered_placed n rs p.2)

-- ---- the present as a mark

module _ (s : Store) (journal : List Entry) (k : ℕ) where
  abbrev last : MarkRow
  last = record { number = k; counts = counts_of s; place = length journal }

  new_snapshot : snapshot_of s journal last ≡ s
  unfolding mark_of new_mark
  new_snapshot = ap (λ (m : Mark). m.snapshot) (new_mark_lem s journal k)

  back_new : (r : MarkRow) (rs : List MarkRow) → Back s journal r rs → Back s journal r (rs ++ (last ∷ []))
  unfolding store_before journal_before
  back_new r [] g = ap₂ (λ (es : List Entry) (t : Store). undoable_all (drop r.place es) t) (take-length journal) new_snapshot ∙ g
  back_new r (q ∷ qs) g = g

  steps_new : (rs : List MarkRow) → sound s ≡ true → Steps s journal rs → Steps s journal (rs ++ (last ∷ []))
  unfolding store_before journal_before undoable_all
  steps_new [] h g = (ap (λ (es : List Entry). undoable_all es s) (drop-length journal), ap sound new_snapshot ∙ h, tt)
  steps_new (r ∷ rs) h g = (back_new r rs g.0, g.1, steps_new rs h g.2)

-- ---- what is freed

rising_placed : (n place : ℕ) (counts : Counts) (end : ℕ) (most : Counts) (rs : List MarkRow) → Rising place counts end most rs
    → Rising (place - n) counts (end - n) most (map (placed_back n) rs)
unfolding placed_back
rising_placed n place counts end most [] p = let l : place ≤ end = p.0 in (omega arith, p.1)
rising_placed n place counts end most (r ∷ rs) p =
    let l : place ≤ r.place = p.0 in
    (omega arith, p.1, rising_placed n r.place r.counts end most rs p.2)

module _ (s : Store) (journal : List Entry) (n : ℕ) where
  placed_snapshot : (r : MarkRow) → n ≤ r.place → snapshot_of s (drop n journal) (placed_back n r) ≡ snapshot_of s journal r
  unfolding mark_of
  placed_snapshot r l = ap (λ (m : Mark). m.snapshot) (sym (placed_mark s journal n r l))

  back_placed : (r : MarkRow) (rs : List MarkRow) → n ≤ r.place → ((q : MarkRow) → Memᴰ q rs → n ≤ q.place)
      → Back s journal r rs → Back s (drop n journal) (placed_back n r) (map (placed_back n) rs)
  unfolding store_before journal_before placed_back
  back_placed r [] l from g = ap (λ (es : List Entry). undoable_all es s) (drop_from n r.place journal l) ∙ g
  back_placed r (q ∷ qs) l from g =
      let m : n ≤ q.place = from q (Memᴰ.head refl) in
      ap₂ undoable_all
      (ap (drop (r.place - n)) (drop_take n q.place journal m) ∙ drop_from n r.place (take q.place journal) l) (placed_snapshot q m)
      ∙ g

  steps_placed : (rs : List MarkRow) → ((q : MarkRow) → Memᴰ q rs → n ≤ q.place) → Steps s journal rs → Steps s (drop n journal) (map (placed_back n) rs)
  steps_placed [] from g = tt
  steps_placed (r ∷ rs) from g =
      let l : n ≤ r.place = from r (Memᴰ.head refl) in
      let later : (q : MarkRow) → Memᴰ q rs → n ≤ q.place = λ q m. from q (Memᴰ.tail m) in
      (back_placed r rs l later g.0, ap sound (placed_snapshot r l) ∙ g.1, steps_placed rs later g.2)

freed_oldest : (journal : List Entry) (rs : List MarkRow) (o : MarkRow)
    → let all = rs ++ (o ∷ []) in none_older (map (placed_back (oldest_place all)) all) journal ≡ true
unfolding none_older oldest_place placed_back
freed_oldest journal [] o = eq-eqb (o.place - o.place) 0 (omega arith)
freed_oldest journal (r ∷ rs) o = eq-eqb (r.place - r.place) 0 (omega arith)

pub mark_sound : MarkSound
unfolding MarkSound journaled_mark freed rows_without
mark_sound j k h named =
    let s = j.store in
    let f = facts j h in
    let end = length j.journal in
    let kept = rows_without k j.rows in
    let rows = kept ++ (last s j.journal k ∷ []) in
    let n = oldest_place rows in
    let rises : Rising 0 no_counts end (counts_of s) rows = rising_new k 0 no_counts end (counts_of s) kept (rising_filter _ 0 no_counts end (counts_of s) j.rows f.rising) in
    let placed : Rising (0 - n) no_counts (end - n) (counts_of s) (map (placed_back n) rows) = rising_placed n 0 no_counts end (counts_of s) rows rises in
    sound_of (journaled_mark j k)
    (record {
      now = f.now;
      rising = subst (λ (m : ℕ). Rising 0 no_counts m (counts_of s) (map (placed_back n) rows)) (sym (length-drop n j.journal))
          (rising_from (0 - n) 0 no_counts no_counts (end - n) (counts_of s) (map (placed_back n) rows) (omega arith) (within_same no_counts) placed);
      numbered = numbered_placed n rows (numbered_new (last s j.journal k) kept named (none_left (row_has_number k) j.rows) (numbered_filter _ j.rows f.numbered));
      oldest = freed_oldest (drop n j.journal) kept (last s j.journal k);
      few = omega (arith, replaced_drop n j.journal, f.few);
      steps = steps_placed s j.journal n rows (oldest_least 0 no_counts end (counts_of s) rows rises)
          (steps_new s j.journal k kept f.now (steps_filter s j.journal _ 0 no_counts j.rows f.rising f.steps));
    })
