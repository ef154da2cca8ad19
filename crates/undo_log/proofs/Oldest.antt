-- The oldest mark's place is the smallest, so what is before it can go, and the rows stay as they were but for their places. Assumes nothing.
use Prim.Native.Nat.{ℕ, zero, suc, ◌<◌, ◌≤◌}
use native.Mathlib.Nat.{not-suc-le-zero, sub-zero}
use native.Mathlib.Omega.{arith}
use mathlib.Core.Bool.{Bool, true, false, cond}
use mathlib.Core.List.{List, [], ◌∷◌, map}
use mathlib.Core.Path.{◌≡◌, refl, sym, ap, ap₂, subst, ◌∙◌}
use borrow.Author.Tests.{eqb-true}
use lib.Dec.{eqb}
use lib.ListN.{length, take, drop}
use Rattle.rules.specs.Marks.{max_remembered}
use Rattle.layout.specs.Columns.{Cols, at, mark_place}
use Rattle.layout.specs.Reading.{tabulate, tabulate_from}
use Rattle.layout.specs.Journal.{Entry, Counts, no_counts, replaced_in, MarkRow, oldest_place, placed_back}
use Rattle.layout.specs.MarkedReading.{entry_at, mark_count, entry_count, row_at, rows_of}
use Rattle.undo_log.proofs.MarkRows.{Rising, rising_end}
use Rattle.undo_log.proofs.Replaced.{replaced_take}
use Rattle.undo_log.specs.MarkWrites.{first_entries, freed_before, freed_words, Freeable}
use Rattle.undo_log.proofs.Listed.{first_tabulate, Every, every_at}
use Rattle.undo_log.proofs.Standing.{Full, full_at, entries_of, row_in, full_back, Stands, marks_stand, entries_stand, full_stands}
use Rattle.undo_log.proofs.Freed.{freed_stands}

-- set at n or later
abbrev pub From : ℕ → Full → Type 0
From n f = n ≤ f.row.place

later_all : (n place : ℕ) (counts : Counts) (end : ℕ) (most : Counts) (fs : List Full) → n ≤ place → Rising place counts end most (map row_in fs) → Every (From n) fs
later_all n place counts end most [] l p = tt
later_all n place counts end most (f ∷ fs) l p =
    let m : place ≤ f.row.place = p.0 in
    let u : n ≤ f.row.place = omega arith in
    (u, later_all n f.row.place f.row.counts end most fs u p.2)

pub oldest_first : (end : ℕ) (most : Counts) (fs : List Full) → Rising 0 no_counts end most (map row_in fs) → Every (From (oldest_place (map row_in fs))) fs
unfolding oldest_place
oldest_first end most [] p = tt
oldest_first end most (f ∷ fs) p =
    let u : f.row.place ≤ f.row.place = omega arith in
    (u, later_all f.row.place f.row.place f.row.counts end most fs u p.2)

oldest_within : (end : ℕ) (most : Counts) (rs : List MarkRow) → Rising 0 no_counts end most rs → oldest_place rs ≤ end
unfolding oldest_place
oldest_within end most [] p = omega arith
oldest_within end most (r ∷ rs) p = (rising_end r.place r.counts end most rs p.2).0

-- the first word of the places
oldest_is : (n : ℕ) (f : ℕ → MarkRow) → 0 < n → (f 0).place ≡ oldest_place (tabulate n f)
unfolding oldest_place tabulate tabulate_from
oldest_is zero f l = absurd (not-suc-le-zero l)
oldest_is (suc n) f l = refl

pub oldest_word : (C : Cols) → 0 < mark_count C → at C mark_place 0 ≡ oldest_place (rows_of C)
unfolding rows_of row_at
oldest_word C l = oldest_is (mark_count C) (row_at C) l

pub freeable : {B C : Cols} {fulls : List Full} {journal : List Entry} → Stands B C fulls journal → (most : Counts) → length fulls ≤ 8 → length journal ≤ 2048 → replaced_in journal ≤ max_remembered
    → Rising 0 no_counts (length journal) most (map row_in fulls) → Freeable C (oldest_place (map row_in fulls))
unfolding first_entries entries_of full_at row_at
freeable {C = C} {fulls = fulls} {journal = journal} g most few short most_replaced p =
    let n = oldest_place (map row_in fulls) in
    let w : n ≤ entry_count C = omega (arith, oldest_within (length journal) most (map row_in fulls) p, entries_stand g) in
    let gone : tabulate n (entry_at C) ≡ take n journal = first_tabulate (entry_count C) n (entry_at C) w ∙ ap (take n) g.entries in
    record {
      few = omega (arith, marks_stand g);
      short = omega (arith, entries_stand g);
      within = w;
      later =
          λ i l. subst (From n) (sym (full_stands g i (full_at C i) l))
          (every_at (From n) fulls (oldest_first (length journal) most fulls p) i (full_at C i) (omega (arith, marks_stand g)));
      counted = omega (arith, ap replaced_in gone, replaced_take n journal, g.counted);
      most = omega (arith, g.counted);
    }

-- ---- what is before it goes

back_none : (fs : List Full) → map (full_back 0) fs ≡ fs
unfolding placed_back
back_none [] = refl
back_none (f ∷ fs) =
    ap₂ (λ (n : ℕ) (l : List Full).
    record { row = record { number = f.row.number; counts = f.row.counts; place = n }; operands = f.operands; successors = f.successors; attributes = f.attributes } ∷ l)
    (sub-zero f.row.place) (back_none fs)

pub back_rows : (n : ℕ) (fs : List Full) → map row_in (map (full_back n) fs) ≡ map (placed_back n) (map row_in fs)
back_rows n [] = refl
back_rows n (f ∷ fs) = ap (λ (l : List MarkRow). placed_back n f.row ∷ l) (back_rows n fs)

pub words_freed : (B C : Cols) (fulls : List Full) (journal : List Entry) → Stands B C fulls journal → Freeable C (at C mark_place 0)
    → Stands B (freed_words C) (map (full_back (at C mark_place 0)) fulls) (drop (at C mark_place 0) journal)
unfolding freed_words
words_freed B C fulls journal g free = go (eqb (at C mark_place 0) 0) refl
  where
    go : (t : Bool) → eqb (at C mark_place 0) 0 ≡ t
        → Stands B (cond t C (freed_before C (at C mark_place 0))) (map (full_back (at C mark_place 0)) fulls) (drop (at C mark_place 0) journal)
    go true e =
        subst (λ (n : ℕ). Stands B C (map (full_back n) fulls) (drop n journal)) (sym (eqb-true (at C mark_place 0) 0 e))
        (subst (λ (fs : List Full). Stands B C fs journal) (sym (back_none fulls)) g)
    go false e = freed_stands B C fulls journal g (at C mark_place 0) free
