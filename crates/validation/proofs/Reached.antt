-- How far the copy has come back: to row i, and all rows from it on hold. Assumes nothing.
use Prim.Native.Nat.{ℕ, suc, ◌<◌, ◌≤◌}
use native.Mathlib.Decide.{ℕ_discrete}
use native.Mathlib.Omega.{arith}
use mathlib.Core.Bool.{true}
use mathlib.Core.List.{List, [], ◌∷◌}
use mathlib.Core.Path.{◌≡◌, refl, sym, ap, ap₂, subst, ◌∙◌}
use borrow.Author.Tests.{leb-true, le-leb, eqb-true, eq-eqb}
use lib.Dec.{leb}
use lib.ListN.{length, take, drop}
use Rattle.rules.specs.Store.{Store, sound}
use Rattle.rules.specs.Marks.{is_mark, max_marks}
use Rattle.rules.proofs.Basics.Tests.{and_left, and_right, and_both, passed, every_of}
use Rattle.layout.specs.Columns.{Cols, at, mark_number, mark_place}
use Rattle.layout.specs.Reading.{tabulate, store_of}
use Rattle.layout.proofs.Tabulate.{length_tabulate}
use Rattle.mutation.specs.Doing.{Behind}
use Rattle.layout.specs.Journal.{Entry, Counts, counts_of, counts_within, no_counts, cut_to, undone_all, undoable_all, MarkRow, snapshot_of, store_before, journal_before}
use Rattle.layout.specs.MarkedReading.{mark_count, entry_count, entry_at, journal_of, row_counts, row_at, rows_of, totals_kept, ranges_end, row_holds}
use Rattle.undo_log.proofs.CountsWithin.{within_none}
use Rattle.undo_log.proofs.MarkRows.{Rising, Back, Steps, rising_end}
use Rattle.undo_log.proofs.BackSteps.{before_snapshot}
use Rattle.undo_log.specs.MarkWrites.{place_in, row_of}
use Rattle.undo_log.proofs.Listed.{first_tabulate}
use Rattle.undo_log.proofs.Holding.{journal_set}
use Rattle.validation.specs.Lending.{row_fits, entries_between, tables_at, step_holds}
use Rattle.validation.proofs.Resting.{row_rests, rows_rest, entries_rest, totals_rest, ranges_rest, rests_on}
use Rattle.validation.proofs.Step.{left_within}
use Rattle.validation.proofs.Numbers.{FirstAt}
use Rattle.validation.proofs.Younger.{younger, younger_none, younger_next, place_or, counts_or, rising_of, rising_head, place_low, rising_more, counts_before}

module _ (C : Cols) where
  abbrev s : Store
  s = store_of C

  abbrev journal : List Entry
  journal = journal_of C

  abbrev Rises : ℕ → Counts → List MarkRow → Type 0
  Rises place counts rs = Rising place counts (length journal) (counts_of s) rs

  -- the rows from i on hold, and the copy's tables are those before them
  pub record Reached (D : Cols) (i end : ℕ) : Type 0 where
    pub reads : store_of D ≡ store_before s journal (younger C i)
    pub behind : Behind D C
    pub low : i ≤ mark_count C
    pub ends : end ≡ place_or (entry_count C) (younger C i)
    pub rising : Rises 0 no_counts (younger C i)
    pub numbers : (k : ℕ) → i ≤ k → k < mark_count C → FirstAt (rows_of C) (at C mark_number k) k
    pub steps : Steps s journal (younger C i)
    pub rows : (k : ℕ) → i ≤ k → k < mark_count C → row_holds C k ≡ true

  -- row i holds as well
  pub record Stepped (i : ℕ) (rs : List MarkRow) : Type 0 where
    pub number : FirstAt (rows_of C) (at C mark_number i) i
    pub rising : Rises (at C mark_place i) (row_counts C i) rs
    pub back : Back s journal (row_at C i) rs
    pub sounds : sound (snapshot_of s journal (row_at C i)) ≡ true
    pub holds : row_holds C i ≡ true

  pub reach_starts : Reached C (mark_count C) (entry_count C)
  unfolding store_before place_or
  reach_starts =
      let e = younger_none C in
      record {
        reads = sym (ap (store_before s journal) e);
        behind = record { words = λ k l. refl; marks = refl; regions = λ n l. refl; results = λ n l. refl; arguments = λ m l. refl };
        low = omega arith;
        ends = sym (ap (place_or (entry_count C)) e);
        rising = subst (Rises 0 no_counts) (sym e) (omega arith, within_none (counts_of s));
        numbers = λ k a b. absurd (omega arith);
        steps = subst (Steps s journal) (sym e) tt;
        rows = λ k a b. absurd (omega arith);
      }

  module _ (some : 0 < mark_count C) where
    pub journal_is : journal_of C ≡ tabulate (entry_count C) (entry_at C)
    journal_is = journal_set C some

    journal_long : length journal ≡ entry_count C
    journal_long = ap length journal_is ∙ length_tabulate (entry_count C) (entry_at C)

    -- the journal before younger rows
    journal_before_lem : (rs : List MarkRow) → Rises 0 no_counts rs → tabulate (place_or (entry_count C) rs) (entry_at C) ≡ journal_before journal rs
    unfolding place_or journal_before
    journal_before_lem [] p = sym journal_is
    journal_before_lem (r ∷ rs) p =
        let l : r.place ≤ entry_count C = omega (arith, journal_long, (rising_end r.place r.counts (length journal) (counts_of s) rs p.2).0) in
        first_tabulate (entry_count C) r.place (entry_at C) l ∙ ap (take r.place) (sym journal_is)

    pub end_fits : (D : Cols) (i end : ℕ) → Reached D i end → end ≤ entry_count C
    end_fits D i end g =
        let rs = younger C i in
        let e : place_or (length journal) rs ≡ place_or (entry_count C) rs = ap (λ (n : ℕ). place_or n rs) journal_long in
        omega (arith, g.ends, journal_long, place_low (length journal) (counts_of s) rs g.rising)

    module _ (D : Cols) (i end : ℕ) (g : Reached D (suc i) end) where
      abbrev rs : List MarkRow
      rs = younger C (suc i)

      abbrev place : ℕ
      place = at C mark_place i

      row_same : row_at D i ≡ row_at C i
      row_same = sym (row_rests D C g.behind i)

      number_same : at D mark_number i ≡ at C mark_number i
      unfolding row_at
      number_same = ap (λ (r : MarkRow). r.number) row_same

      place_same : at D mark_place i ≡ place
      unfolding row_at
      place_same = ap (λ (r : MarkRow). r.place) row_same

      counts_same_lem : row_counts D i ≡ row_counts C i
      unfolding row_at
      counts_same_lem = ap (λ (r : MarkRow). r.counts) row_same

      first_is : row_of D (at D mark_number i) ≡ row_of C (at C mark_number i)
      first_is = ap₂ place_in number_same (sym (rows_rest D C g.behind))

      between_is : entries_between D i end ≡ drop place (journal_before journal rs)
      unfolding entries_between
      between_is =
          ap₂ drop place_same
          (sym (entries_rest D C g.behind end) ∙ ap (λ (n : ℕ). tabulate n (entry_at C)) g.ends ∙ journal_before_lem rs g.rising)

      undo_is : undoable_all (entries_between D i end) (store_of D) ≡ undoable_all (drop place (journal_before journal rs)) (store_before s journal rs)
      undo_is = ap₂ undoable_all between_is g.reads

      within_is : counts_within (row_counts D i) (counts_of (store_of D)) ≡ counts_within (row_counts C i) (counts_or (counts_of s) rs)
      within_is = ap₂ counts_within counts_same_lem (ap counts_of g.reads ∙ counts_before s journal rs g.rising)

      tables_is : Rises place (row_counts C i) rs → tables_at D i end ≡ snapshot_of s journal (row_at C i)
      unfolding tables_at snapshot_of row_at
      tables_is p = (λ t. cut_to (counts_same_lem t) (undone_all (between_is t) (g.reads t))) ∙ before_snapshot s journal (row_at C i) rs p

      totals_is : Rises place (row_counts C i) rs → totals_kept D i (tables_at D i end) ≡ totals_kept C i (snapshot_of s journal (row_at C i))
      totals_is p = ap (totals_kept D i) (tables_is p) ∙ sym (totals_rest D C g.behind i (snapshot_of s journal (row_at C i)))

      ranges_is : counts_within (row_counts D i) (counts_of (store_of D)) ≡ true → ranges_end D (row_counts D i) ≡ ranges_end C (row_counts C i)
      ranges_is w = sym (ranges_rest D C g.behind (row_counts D i) w) ∙ ap (ranges_end C) counts_same_lem

      ends_same : place_or (length journal) rs ≡ end
      ends_same = ap (λ (n : ℕ). place_or n rs) journal_long ∙ sym g.ends

      -- what the step's test says of the row
      pub step_says : step_holds D i end ≡ true → Stepped i rs
      unfolding step_holds row_fits row_holds is_mark row_at
      step_says h =
          let p = passed _ h in
          let f = passed _ p.0 in
          let w = f.1.1.1.1.0 in
          let rises : Rises place (row_counts C i) rs =
          rising_of (length journal) (counts_of s) place (row_counts C i) rs g.rising
          (omega (arith, leb-true (at D mark_place i) end f.1.1.1.0, place_same, ends_same)) (sym within_is ∙ w) in
          record {
            number = (
              subst (λ (k : ℕ). is_mark k ≡ true) number_same (and_both (leb 1 (at D mark_number i)) (leb (at D mark_number i) max_marks) f.0 f.1.0),
              sym first_is ∙ eqb-true _ _ f.1.1.0,
            );
            rising = rises;
            back = sym undo_is ∙ p.1.0;
            sounds = sym (ap sound (tables_is rises)) ∙ p.1.1.0;
            holds = and_both _ _ (sym (totals_is rises) ∙ p.1.1.1.0) (sym (ranges_is w) ∙ p.1.1.1.1.0);
          }

      -- and what the test answers of a row that holds
      pub step_passes : Stepped i rs → step_holds D i end ≡ true
      unfolding step_holds row_fits row_holds is_mark row_at
      step_passes h =
          let z = rising_head (length journal) (counts_of s) place (row_counts C i) rs h.rising in
          let m : is_mark (at D mark_number i) ≡ true = subst (λ (k : ℕ). is_mark k ≡ true) (sym number_same) h.number.0 in
          let w = within_is ∙ z.1 in
          let totals = totals_kept C i (snapshot_of s journal (row_at C i)) in
          every_of _ (
            every_of _ (
              and_left (leb 1 (at D mark_number i)) (leb (at D mark_number i) max_marks) m,
              (
                and_right (leb 1 (at D mark_number i)) (leb (at D mark_number i) max_marks) m,
                (eq-eqb _ _ (first_is ∙ h.number.1), (le-leb (at D mark_place i) end (omega (arith, z.0, place_same, ends_same)), (w, tt))),
              ),
            ),
            (
              undo_is ∙ h.back,
              (
                ap sound (tables_is h.rising) ∙ h.sounds,
                (
                  totals_is h.rising ∙ and_left totals (ranges_end C (row_counts C i)) h.holds,
                  (ranges_is w ∙ and_right totals (ranges_end C (row_counts C i)) h.holds, tt),
                ),
              ),
            ),
          )

      -- one row more
      from_here : {P : ℕ → Type 0} → P i → ((k : ℕ) → suc i ≤ k → k < mark_count C → P k) → (k : ℕ) → i ≤ k → k < mark_count C → P k
      from_here {P = P} here later k a b = go (ℕ_discrete k i)
        where
          go : Dec (k ≡ i) → P k
          go (yes e) = subst P (sym e) here
          go (no ne) = later k (omega arith) b

      pub step_on : step_holds D i end ≡ true → (T : Cols) → store_of T ≡ tables_at D i end → Behind T D → (e : ℕ) → e ≡ at T mark_place i → Reached T i e
      unfolding store_before place_or row_at
      step_on h T reads behind e read =
          let z = step_says h in
          let l : i < mark_count C = g.low in
          let next = younger_next C i l in
          let fewer = subst (λ (x : Store). counts_within (counts_of x) (counts_of (store_of D)) ≡ true) (sym reads) (left_within D i end) in
          let b = rests_on C D T g.behind behind fewer in
          record {
            reads = reads ∙ tables_is z.rising ∙ sym (ap (store_before s journal) next);
            behind = b;
            low = omega arith;
            ends = read ∙ ap (λ (r : MarkRow). r.place) (sym (row_rests T C b i)) ∙ sym (ap (place_or (entry_count C)) next);
            rising = subst (Rises 0 no_counts) (sym next) (rising_more (length journal) (counts_of s) (row_at C i) rs z.rising);
            numbers = from_here {P = λ (k : ℕ). FirstAt (rows_of C) (at C mark_number k) k} z.number g.numbers;
            steps = subst (Steps s journal) (sym next) (z.back, z.sounds, g.steps);
            rows = from_here {P = λ (k : ℕ). row_holds C k ≡ true} z.holds g.rows;
          }
