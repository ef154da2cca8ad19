-- One step back on the copy: the row is tested, the journal up to it is undone, the tables are cut and tested again. Assumes nothing.
use Prim.Native.Nat.{ℕ, ◌≤◌}
use mathlib.Core.Bool.{Bool, true, false}
use mathlib.Core.List.{List, [], ◌∷◌}
use mathlib.Core.Path.{◌≡◌, refl, sym, ap, ap₂, subst, ◌∙◌}
use borrow.Author.Tests.{leb-true}
use lib.ListN.{drop}
use Rattle.rules.specs.Lists.{every}
use Rattle.rules.specs.Store.{Store, sound}
use Rattle.rules.proofs.Basics.Tests.{passed, clash}
use Rattle.layout.specs.Columns.{Cols, columns, at, mark_place}
use Rattle.layout.specs.Reading.{tabulate, store_of}
use Rattle.layout.specs.Soundness.{sound_buffer}
use Rattle.layout.proofs.Scans.{fails, next}
use Rattle.layout.proofs.Empty.{sound_facts}
use Rattle.layout.specs.Journal.{Counts, counts_of, counts_within, cut_to, undone_all, MarkRow}
use Rattle.layout.specs.MarkedReading.{entry_at, row_counts, row_at, totals_kept, ranges_end}
use Rattle.undo_log.proofs.CountsWithin.{counts_undone, counts_cut}
use Rattle.undo_log.specs.CutBack.{MarksKept, back_sound}
use Rattle.undo_log.specs.Undoing.{UndidAll}
use Rattle.validation.specs.Lending.{row_fits, entries_between, tables_at, step_holds, CameBack}
use Rattle.validation.proofs.Resting.{row_rests, totals_rest, ranges_rest, rests_back}

-- there is no more left than there was
pub left_within : (D : Cols) (i end : ℕ) → counts_within (counts_of (tables_at D i end)) (counts_of (store_of D)) ≡ true
unfolding tables_at
left_within D i end =
    let then = undone_all (entries_between D i end) (store_of D) in
    subst (λ (k : Counts). counts_within (counts_of (cut_to (row_counts D i) then)) k ≡ true) (counts_undone (entries_between D i end) (store_of D)) (counts_cut (row_counts D i) then)

-- nothing is said of what is left where the answer is no
refuses : (b exit : List ℕ) (i end : ℕ) → step_holds (columns b) i end ≡ false → CameBack b exit i end false
refuses b exit i end e =
    record { told = sym e; reads = λ q. clash q refl; sound = λ q. clash q refl; behind = λ q. clash q refl }

pub unfit : (b exit : List ℕ) (i end : ℕ) → row_fits (columns b) i end ≡ false → CameBack b exit i end false
unfolding step_holds
unfit b exit i end e = refuses b exit i end (fails _ 0 e)

module _ (b : List ℕ) (i end : ℕ) (fit : row_fits (columns b) i end ≡ true) where
  abbrev D : Cols
  D = columns b

  pub place_within : at D mark_place i ≤ end
  unfolding row_fits
  place_within = leb-true (at D mark_place i) end (passed _ fit).1.1.1.0

  counts_within_lem : counts_within (row_counts D i) (counts_of (store_of D)) ≡ true
  unfolding row_fits
  counts_within_lem = (passed _ fit).1.1.1.1.0

  module _ (place : ℕ) (read : place ≡ at D mark_place i) (u : List ℕ) (q : Bool) (d : UndidAll b u (drop place (tabulate end (entry_at D))) q) where
    abbrev U : Cols
    U = columns u

    undid : UndidAll b u (entries_between D i end) q
    unfolding entries_between
    undid = subst (λ (p : ℕ). UndidAll b u (drop p (tabulate end (entry_at D))) q) read d

    pub not_undone : (exit : List ℕ) → q ≡ false → CameBack b exit i end false
    unfolding step_holds
    not_undone exit e = refuses b exit i end (fails _ 1 (sym undid.told ∙ e))

    module _ (all : q ≡ true) where
      same_counts : row_counts U i ≡ row_counts D i
      unfolding row_at
      same_counts = ap (λ (r : MarkRow). r.counts) (row_rests D U undid.behind i)

      pub cut_within : counts_within (row_counts U i) (counts_of (store_of U)) ≡ true
      cut_within = ap₂ counts_within same_counts (ap counts_of (undid.reads all) ∙ counts_undone (entries_between D i end) (store_of D)) ∙ counts_within_lem

      cut_is : cut_to (row_counts U i) (store_of U) ≡ tables_at D i end
      unfolding tables_at
      cut_is = ap₂ cut_to same_counts (undid.reads all)

      sound_is : back_sound U i ≡ step_holds D i end
      unfolding back_sound step_holds
      sound_is =
          let totals : totals_kept U i (cut_to (row_counts U i) (store_of U)) ≡ totals_kept D i (tables_at D i end) =
          ap (totals_kept U i) cut_is ∙ totals_rest D U undid.behind i (tables_at D i end) in
          let ranges : ranges_end U (row_counts U i) ≡ ranges_end D (row_counts D i) =
          ap (ranges_end U) same_counts ∙ ranges_rest D U undid.behind (row_counts D i) counts_within_lem in
          (λ t. every (sound (cut_is t) ∷ totals t ∷ ranges t ∷ [])) ∙ sym (next _ _ fit (next _ _ (sym undid.told ∙ all) refl))

      pub came_back : (t : List ℕ) (r : Bool) → store_of (columns t) ≡ cut_to (row_counts U i) (store_of U) → sound_buffer t ≡ back_sound U i → MarksKept U (columns t)
          → r ≡ sound_buffer t → CameBack b t i end r
      came_back t r reads sounds kept told =
          record {
            told = told ∙ sounds ∙ sound_is;
            reads = λ yes. reads ∙ cut_is;
            sound = λ yes. sound_facts t (sym told ∙ yes);
            behind =
                λ yes. rests_back D U (columns t) undid.behind kept
                (subst (λ (s : Store). counts_within (counts_of s) (counts_of (store_of D)) ≡ true) (sym (reads ∙ cut_is)) (left_within D i end));
          }

-- what a step back asks for, and how it ends early
pub ruleset going_back = (unfit, place_within, not_undone, cut_within)
