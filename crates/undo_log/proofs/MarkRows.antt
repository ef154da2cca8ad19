-- What a sound journal says, by name; and rows in the order of setting: rows that go, a new one at the end, and those up to a mark. Assumes
-- nothing.
use Prim.Native.Nat.{ℕ, ◌≤◌}
use native.Mathlib.Omega.{arith}
use mathlib.Core.Bool.{Bool, true, false, cond, not, ◌||◌}
use mathlib.Core.List.{List, [], ◌∷◌, ◌++◌, Memᴰ}
use mathlib.Core.Path.{◌≡◌, refl, sym, ap, subst}
use borrow.Author.Tests.{leb-true, le-leb, not-true, eqb-true}
use lib.Dec.{eqb, leb}
use lib.ListN.{length, drop}
use Rattle.std.specs.List.{list_any, filter}
use Rattle.rules.specs.Store.{Store, sound}
use Rattle.rules.specs.Marks.{is_mark, max_remembered}
use Rattle.rules.proofs.Basics.Tests.{and_left, and_right, and_both, passed, every_of, clash}
use Rattle.layout.specs.Journal.{Entry, Counts, counts_of, counts_within, no_counts, replaced_in, MarkRow, Journaled, snapshot_of, row_has_number, rows_up_to, row_or, undoable_all, store_before, journal_before, steps_back, rows_hold, none_older, journal_sound}
use Rattle.undo_log.proofs.CountsWithin.{within_same, within_trans}

-- ---- what is tested

-- places and counts don't fall from these on, up to n and most
abbrev pub Rising : ℕ → Counts → ℕ → Counts → List MarkRow → Type 0
Rising place counts n most [] = (place ≤ n) × (counts_within counts most ≡ true)
Rising place counts n most (r ∷ rs) = (place ≤ r.place) × (counts_within counts r.counts ≡ true) × Rising r.place r.counts n most rs

-- numbers of marks, none twice
abbrev pub Numbered : List MarkRow → Type 0
Numbered [] = Unit {0}
Numbered (r ∷ rs) = (is_mark r.number ≡ true) × (list_any (row_has_number r.number) rs ≡ false) × Numbered rs

rows_facts : (place : ℕ) (counts : Counts) (j : Journaled) (rs : List MarkRow) → rows_hold place counts j rs ≡ true
    → Rising place counts (length j.journal) (counts_of j.store) rs × Numbered rs
unfolding rows_hold
rows_facts place counts j [] h =
    let first = leb place (length j.journal) in
    let last = counts_within counts (counts_of j.store) in
    ((leb-true place _ (and_left first last h), and_right first last h), tt)
rows_facts place counts j (r ∷ rs) h =
    let p = passed _ h in
    let q = rows_facts r.place r.counts j rs p.1.1.1.1.0 in
    ((leb-true place r.place p.1.1.0, p.1.1.1.0, q.0), (p.0, not-true _ p.1.0, q.1))

rows_hold_lem : (place : ℕ) (counts : Counts) (j : Journaled) (rs : List MarkRow) → Rising place counts (length j.journal) (counts_of j.store) rs
    → Numbered rs → rows_hold place counts j rs ≡ true
unfolding rows_hold
rows_hold_lem place counts j [] p q = and_both _ _ (le-leb place _ p.0) p.1
rows_hold_lem place counts j (r ∷ rs) p q =
    every_of _ (q.0, (ap not q.1, (le-leb place r.place p.0, (p.1, (rows_hold_lem r.place r.counts j rs p.2 q.2, tt)))))

-- the journal between a mark and the first of the younger ones can be undone
abbrev pub Back : Store → List Entry → MarkRow → List MarkRow → Type 0
Back s journal r rs = undoable_all (drop r.place (journal_before journal rs)) (store_before s journal rs) ≡ true

abbrev pub Steps : Store → List Entry → List MarkRow → Type 0
Steps s journal [] = Unit {0}
Steps s journal (r ∷ rs) = Back s journal r rs × (sound (snapshot_of s journal r) ≡ true) × Steps s journal rs

steps_facts : (s : Store) (journal : List Entry) (rs : List MarkRow) → steps_back s journal rs ≡ true → Steps s journal rs
unfolding steps_back
steps_facts s journal [] h = tt
steps_facts s journal (r ∷ rs) h = let p = passed _ h in (p.0, p.1.0, steps_facts s journal rs p.1.1.0)

steps_back_lem : (s : Store) (journal : List Entry) (rs : List MarkRow) → Steps s journal rs → steps_back s journal rs ≡ true
unfolding steps_back
steps_back_lem s journal [] p = refl
steps_back_lem s journal (r ∷ rs) p = every_of _ (p.0, (p.1, (steps_back_lem s journal rs p.2, tt)))

pub record Facts (j : Journaled) : Type 0 where
  pub now : sound j.store ≡ true
  pub rising : Rising 0 no_counts (length j.journal) (counts_of j.store) j.rows
  pub numbered : Numbered j.rows
  pub oldest : none_older j.rows j.journal ≡ true
  pub few : replaced_in j.journal ≤ max_remembered
  pub steps : Steps j.store j.journal j.rows

pub facts : (j : Journaled) → journal_sound j ≡ true → Facts j
unfolding journal_sound
facts j h =
    let p = passed _ h in
    let q = rows_facts 0 no_counts j j.rows p.1.0 in
    record {
      now = p.0;
      rising = q.0;
      numbered = q.1;
      oldest = p.1.1.0;
      few = leb-true _ max_remembered p.1.1.1.0;
      steps = steps_facts j.store j.journal j.rows p.1.1.1.1.0;
    }

pub sound_of : (j : Journaled) → Facts j → journal_sound j ≡ true
unfolding journal_sound
sound_of j f =
    every_of _ (
      f.now,
      (
        rows_hold_lem 0 no_counts j j.rows f.rising f.numbered,
        (f.oldest, (le-leb _ max_remembered f.few, (steps_back_lem j.store j.journal j.rows f.steps, tt))),
      ),
    )

-- ---- one of the rows

pub record Between (place : ℕ) (counts : Counts) (n : ℕ) (most : Counts) (r : MarkRow) : Type 0 where
  pub from : place ≤ r.place
  pub to : r.place ≤ n
  pub more : counts_within counts r.counts ≡ true
  pub fewer : counts_within r.counts most ≡ true

pub rising_end : (place : ℕ) (counts : Counts) (n : ℕ) (most : Counts) (rs : List MarkRow) → Rising place counts n most rs → (place ≤ n) × (counts_within counts most ≡ true)
rising_end place counts n most [] p = p
rising_end place counts n most (r ∷ rs) p =
    let q = rising_end r.place r.counts n most rs p.2 in
    let l : place ≤ r.place = p.0 in
    let m : r.place ≤ n = q.0 in
    (omega arith, within_trans counts r.counts most p.1 q.1)

-- from smaller places and counts on
pub rising_from : (place place' : ℕ) (counts counts' : Counts) (n : ℕ) (most : Counts) (rs : List MarkRow) → place' ≤ place → counts_within counts' counts ≡ true
    → Rising place counts n most rs → Rising place' counts' n most rs
rising_from place place' counts counts' n most [] l w p = let m : place ≤ n = p.0 in (omega arith, within_trans counts' counts most w p.1)
rising_from place place' counts counts' n most (r ∷ rs) l w p =
    let m : place ≤ r.place = p.0 in
    (omega arith, within_trans counts' counts r.counts w p.1, p.2)

-- up to larger ones
pub rising_to : (place : ℕ) (counts : Counts) (n n' : ℕ) (most most' : Counts) (rs : List MarkRow) → n ≤ n' → counts_within most most' ≡ true
    → Rising place counts n most rs → Rising place counts n' most' rs
rising_to place counts n n' most most' [] l w p = let m : place ≤ n = p.0 in (omega arith, within_trans counts most most' p.1 w)
rising_to place counts n n' most most' (r ∷ rs) l w p = (p.0, p.1, rising_to r.place r.counts n n' most most' rs l w p.2)

pub row_at_lem : {r : MarkRow} (place : ℕ) (counts : Counts) (n : ℕ) (most : Counts) (rs : List MarkRow) → Rising place counts n most rs → Memᴰ r rs → Between place counts n most r
row_at_lem {r = r} place counts n most rs p (Memᴰ.head {x = q} {xs = qs} e) =
    let z = rising_end q.place q.counts n most qs p.2 in
    subst (Between place counts n most) (sym e) (record { from = p.0; to = z.0; more = p.1; fewer = z.1 })
row_at_lem {r = r} place counts n most rs p (Memᴰ.tail {x = q} {xs = qs} m) =
    row_at_lem place counts n most qs (rising_from q.place place q.counts counts n most qs p.0 p.1 p.2) m

-- ---- rows that go, and a new one

pub rising_filter : (keep : MarkRow → Bool) (place : ℕ) (counts : Counts) (n : ℕ) (most : Counts) (rs : List MarkRow) → Rising place counts n most rs → Rising place counts n most (filter keep rs)
rising_filter keep place counts n most [] p = p
rising_filter keep place counts n most (r ∷ rs) p = go (keep r) (rising_filter keep r.place r.counts n most rs p.2)
  where
    go : (b : Bool) → Rising r.place r.counts n most (filter keep rs) → Rising place counts n most (cond b (r ∷ filter keep rs) (filter keep rs))
    go true q = (p.0, p.1, q)
    go false q = rising_from r.place place r.counts counts n most (filter keep rs) p.0 p.1 q

pub rising_new : (k place : ℕ) (counts : Counts) (n : ℕ) (most : Counts) (rs : List MarkRow) → Rising place counts n most rs
    → Rising place counts n most (rs ++ (record { number = k; counts = most; place = n } ∷ []))
rising_new k place counts n most [] p = (p.0, p.1, (omega arith, within_same most))
rising_new k place counts n most (r ∷ rs) p = (p.0, p.1, rising_new k r.place r.counts n most rs p.2)

-- ---- the row of a number, and those up to it

module _ (other : MarkRow) (k : ℕ) where
  abbrev Found : List MarkRow → MarkRow → Type 0
  Found rs r = Memᴰ r rs × (r.number ≡ k)

  pub found : (rs : List MarkRow) → list_any (row_has_number k) rs ≡ true → Found rs (row_or other k rs)
  unfolding row_or row_has_number
  found [] h = clash h refl
  found (r ∷ rs) h = go (eqb r.number k) refl h (found rs)
    where
      go : (b : Bool) → eqb r.number k ≡ b → (b || list_any (row_has_number k) rs) ≡ true → (list_any (row_has_number k) rs ≡ true → Found rs (row_or other k rs))
          → Found (r ∷ rs) (cond b r (row_or other k rs))
      go true e g f = (Memᴰ.head refl, eqb-true r.number k e)
      go false e g f = let z = f g in (Memᴰ.tail z.0, z.1)

  -- up to it places and counts rise to its own
  pub rising_up_to : (place : ℕ) (counts : Counts) (n : ℕ) (most : Counts) (rs : List MarkRow) → list_any (row_has_number k) rs ≡ true → Rising place counts n most rs
      → Rising place counts (row_or other k rs).place (row_or other k rs).counts (rows_up_to k rs)
  unfolding row_or rows_up_to
  rising_up_to place counts n most [] h p = clash h refl
  rising_up_to place counts n most (r ∷ rs) h p = go (row_has_number k r) h (λ g. rising_up_to r.place r.counts n most rs g p.2)
    where
      go : (b : Bool) → (b || list_any (row_has_number k) rs) ≡ true
          → (list_any (row_has_number k) rs ≡ true → Rising r.place r.counts (row_or other k rs).place (row_or other k rs).counts (rows_up_to k rs))
          → Rising place counts (cond b r (row_or other k rs)).place (cond b r (row_or other k rs)).counts (r ∷ cond b [] (rows_up_to k rs))
      go true g f = (p.0, p.1, (omega arith, within_same r.counts))
      go false g f = (p.0, p.1, f g)
