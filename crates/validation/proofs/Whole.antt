-- All rows together: where one fails the journal is not sound or the row does not hold, and where all pass only the oldest place is left to
-- ask for. Assumes nothing.
use Prim.Native.Nat.{ℕ, suc, ◌<◌, ◌≤◌}
use native.Mathlib.Omega.{arith}
use mathlib.Core.Bool.{true, false}
use mathlib.Core.List.{List}
use mathlib.Core.Path.{◌≡◌, refl, sym, ap, subst, ◌∙◌}
use lib.Dec.{eqb}
use lib.ListN.{length, get_or}
use Rattle.rules.specs.Lists.{all_below}
use Rattle.rules.specs.Store.{sound}
use Rattle.rules.specs.Marks.{max_remembered}
use Rattle.rules.proofs.Basics.Tests.{and_left, and_right, and_both, all_below_at, all_below_of, clash}
use Rattle.layout.specs.Columns.{Cols, at, mark_number, mark_place}
use Rattle.layout.specs.Reading.{store_of}
use Rattle.layout.proofs.Scans.{same_tests}
use Rattle.layout.proofs.Tabulate.{length_tabulate, get_d_tabulate}
use Rattle.layout.specs.Journal.{counts_of, no_counts, replaced_in, MarkRow, none_older, journal_sound}
use Rattle.layout.specs.MarkedReading.{mark_count, journal_of, row_at, rows_of, journaled_of, row_holds}
use Rattle.undo_log.proofs.MarkRows.{Rising, Steps, Facts, facts, sound_of}
use Rattle.validation.specs.Lending.{step_holds, rows_hold_in}
use Rattle.validation.proofs.Numbers.{FirstAt, first_at_lem, numbered_of}
use Rattle.validation.proofs.Younger.{younger, younger_next, younger_all, place_or, from_on}
use Rattle.validation.proofs.Reached.{Reached, Stepped, step_passes}

module _ (C : Cols) where
  row_is : (i : ℕ) → i < mark_count C → get_or (rows_of C) i (row_at C 0) ≡ row_at C i
  unfolding rows_of
  row_is i l = get_d_tabulate (mark_count C) (row_at C) i (row_at C 0) l

  rows_long : length (rows_of C) ≡ mark_count C
  unfolding rows_of
  rows_long = length_tabulate (mark_count C) (row_at C)

  number_is : (i : ℕ) → i < mark_count C → (get_or (rows_of C) i (row_at C 0)).number ≡ at C mark_number i
  unfolding row_at
  number_is i l = ap (λ (r : MarkRow). r.number) (row_is i l)

  pub hold_facts : rows_hold_in C ≡ true → Facts (journaled_of C) × ((i : ℕ) → i < mark_count C → row_holds C i ≡ true)
  unfolding rows_hold_in
  hold_facts h =
      let j = journal_sound (journaled_of C) in
      let rows = all_below (mark_count C) (row_holds C) in
      (facts (journaled_of C) (and_left j rows h), all_below_at (mark_count C) (row_holds C) (and_right j rows h))

  abbrev Rises : List MarkRow → Type 0
  Rises rs = Rising 0 no_counts (length (journal_of C)) (counts_of (store_of C)) rs

  stepped_all : rows_hold_in C ≡ true → (i : ℕ) → i < mark_count C → Stepped C i (younger C (suc i))
  unfolding journaled_of row_at
  stepped_all h i l =
      let f = hold_facts h in
      let s = store_of C in
      let journal = journal_of C in
      let z = from_on s journal C (subst Rises (sym (younger_all C)) f.0.rising) (subst (Steps s journal) (sym (younger_all C)) f.0.steps) i (omega arith) in
      let w = subst (λ (rs : List MarkRow). Rises rs × Steps s journal rs) (younger_next C i l) z in
      record {
        number = subst (λ (k : ℕ). FirstAt (rows_of C) k i) (number_is i l) (first_at_lem (rows_of C) f.0.numbered (row_at C 0) i (omega (arith, rows_long)));
        rising = w.0.2;
        back = w.1.0;
        sounds = w.1.1;
        holds = f.1 i l;
      }

  pub step_fails : 0 < mark_count C → (D : Cols) (i end : ℕ) → Reached C D (suc i) end → step_holds D i end ≡ false → false ≡ rows_hold_in C
  step_fails some D i end g e = same_tests false (rows_hold_in C) (λ h. clash h refl) (λ h. clash (step_passes C some D i end g (stepped_all h i g.low)) e)

  older_is : 0 < mark_count C → none_older (rows_of C) (journal_of C) ≡ eqb (at C mark_place 0) 0
  unfolding none_older row_at
  older_is some = ap (λ (rs : List MarkRow). none_older rs (journal_of C)) (sym (younger_all C) ∙ younger_next C 0 some)

  pub all_told : 0 < mark_count C → sound (store_of C) ≡ true → replaced_in (journal_of C) ≤ max_remembered → (D : Cols) (end : ℕ) → Reached C D 0 end
      → eqb end 0 ≡ rows_hold_in C
  unfolding rows_hold_in journaled_of place_or row_at
  all_told some sounds few D end g =
      let oldest : end ≡ at C mark_place 0 = g.ends ∙ ap (place_or _) (younger_next C 0 some) in
      let asked : none_older (rows_of C) (journal_of C) ≡ eqb end 0 = older_is some ∙ ap (λ (n : ℕ). eqb n 0) (sym oldest) in
      let numbered =
      numbered_of (rows_of C) (row_at C 0)
      (λ i l. let b : i < mark_count C = omega (arith, rows_long) in subst (λ (k : ℕ). FirstAt (rows_of C) k i) (sym (number_is i b)) (g.numbers i (omega arith) b)) in
      same_tests (eqb end 0) (rows_hold_in C)
      (λ h. and_both _ _
      (sound_of (journaled_of C)
      (record {
        now = sounds;
        rising = subst Rises (younger_all C) g.rising;
        numbered = numbered;
        oldest = asked ∙ h;
        few = few;
        steps = subst (Steps (store_of C) (journal_of C)) (younger_all C) g.steps;
      }))
      (all_below_of (mark_count C) (row_holds C) (λ i l. g.rows i (omega arith) l)))
      (λ h. sym asked ∙ (hold_facts h).0.oldest)
