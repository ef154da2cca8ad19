-- A lent buffer and the row of a set mark: the journal behind it can be undone, and after that the tables can be cut. Assumes nothing.
use Prim.Native.Nat.{ℕ, ◌<◌, ◌≤◌}
use native.Mathlib.Omega.{arith}
use mathlib.Core.Bool.{Bool, true, false}
use mathlib.Core.List.{List, Memᴰ}
use mathlib.Core.Path.{◌≡◌, sym, ap, ap₂, subst, subst₂, ◌∙◌}
use borrow.Author.Tests.{ne_eqb, eq-eqb}
use lib.Dec.{eqb}
use lib.ListN.{length, get_or, drop}
use Rattle.rules.specs.Store.{Store, sound, operand_total, successor_total, attribute_total}
use Rattle.rules.proofs.Basics.Tests.{every_of}
use Rattle.rules.proofs.Basics.Appended.{mem_get_d}
use Rattle.layout.specs.Columns.{Cols, columns, at, mark_place, mark_number, mark_counts, journal_counts}
use Rattle.layout.specs.Reading.{tabulate, store_of}
use Rattle.layout.proofs.Tabulate.{length_tabulate, get_d_tabulate}
use Rattle.layout.specs.Journal.{Entry, counts_of, counts_within, no_counts, cut_to, undone_all, undoable_all, MarkRow, snapshot_of}
use Rattle.layout.specs.MarkedReading.{max_entries, mark_count, entry_count, entry_at, journal_of, row_counts, row_at, rows_of, journaled_of, totals_kept, ranges_end}
use Rattle.undo_log.proofs.CountsWithin.{counts_undone}
use Rattle.undo_log.proofs.MarkRows.{Between, Facts, facts, row_at_lem}
use Rattle.undo_log.proofs.KeptBack.{sound_at}
use Rattle.undo_log.specs.CutBack.{back_sound}
use Rattle.undo_log.specs.Undoing.{UndidAll}
use Rattle.undo_log.proofs.Lent.{Lent}
use Rattle.undo_log.proofs.Standing.{Full, full_at}
use Rattle.undo_log.proofs.Holding.{Remembered, holds_facts, journal_set, FullHolds, full_facts}
use Rattle.undo_log.proofs.Words.{full_same, ranges_behind}
use Rattle.undo_log.proofs.BackRows.{undoable_at}

module _ (b : List ℕ) (h : Lent b) (row : ℕ) (set : row < mark_count (columns b)) where
  abbrev pub C : Cols
  C = columns b

  abbrev pub place : ℕ
  place = at C mark_place row

  abbrev pub behind : List Entry
  behind = drop place (tabulate (entry_count C) (entry_at C))

  pub f : Facts (journaled_of C)
  f = facts (journaled_of C) h.journal

  some : eqb (mark_count C) 0 ≡ false
  some = ne_eqb (mark_count C) 0 (λ e. omega arith)

  pub words : Remembered C
  words = holds_facts C h.holds some

  pub journal_is : journal_of C ≡ tabulate (entry_count C) (entry_at C)
  journal_is = journal_set C (omega arith)

  pub row_is : (i : ℕ) → i < mark_count C → get_or (rows_of C) i (row_at C 0) ≡ row_at C i
  unfolding rows_of
  row_is i l = get_d_tabulate (mark_count C) (row_at C) i (row_at C 0) l

  pub rows_long : length (rows_of C) ≡ mark_count C
  unfolding rows_of
  rows_long = length_tabulate (mark_count C) (row_at C)

  pub row_there : Memᴰ (row_at C row) (rows_of C)
  row_there = subst (λ (r : MarkRow). Memᴰ r (rows_of C)) (row_is row set) (mem_get_d (rows_of C) row (row_at C 0) (omega (arith, rows_long)))

  pub between : Between 0 no_counts (length (journal_of C)) (counts_of (store_of C)) (row_at C row)
  unfolding journaled_of
  between = row_at_lem 0 no_counts (length (journal_of C)) (counts_of (store_of C)) (rows_of C) f.rising row_there

  pub place_fits : place ≤ entry_count C
  unfolding row_at
  place_fits = omega (arith, between.to, ap length journal_is, length_tabulate (entry_count C) (entry_at C))

  -- in words, as the code reads them
  pub place_low : (at (columns b) mark_place row ≤ at (columns b) journal_counts 0) × (at (columns b) journal_counts 0 ≤ max_entries)
  unfolding entry_count
  place_low = (place_fits, words.short)

  -- ---- what is undone

  all_undoable : undoable_all behind (store_of C) ≡ true
  unfolding journaled_of row_at
  all_undoable =
      ap (λ (es : List Entry). undoable_all (drop place es) (store_of C)) (sym journal_is)
      ∙ undoable_at (store_of C) (journal_of C) 0 no_counts (rows_of C) f.rising f.steps row_there

  -- from the words that were read
  pub undid : (p e : ℕ) → p ≡ place → e ≡ entry_count C → (u : List ℕ) (q : Bool) → UndidAll b u (drop p (tabulate e (entry_at C))) q → UndidAll b u behind q
  undid p e at_place at_end_lem u q d = subst₂ (λ (x y : ℕ). UndidAll b u (drop x (tabulate y (entry_at C))) q) at_place at_end_lem d

  unfoldable pub then : Store
  then = snapshot_of (store_of C) (journal_of C) (row_at C row)

  module _ (u : List ℕ) (q : Bool) (d : UndidAll b u behind q) where
    abbrev U : Cols
    U = columns u

    undone_reads : store_of U ≡ undone_all (drop place (journal_of C)) (store_of C)
    undone_reads = d.reads (d.told ∙ all_undoable) ∙ ap (λ (es : List Entry). undone_all (drop place es) (store_of C)) (sym journal_is)

    pub full_undone : (i : ℕ) → full_at U i ≡ full_at C i
    full_undone i = full_same C U (d.behind.words mark_number (omega arith)) (d.behind.words mark_place (omega arith)) (d.behind.words mark_counts (omega arith)) i

    pub counts_same_lem : row_counts U row ≡ row_counts C row
    unfolding full_at row_at
    counts_same_lem = ap (λ (x : Full). x.row.counts) (full_undone row)

    pub within : counts_within (row_counts U row) (counts_of (store_of U)) ≡ true
    unfolding row_at
    within =
        ap₂ counts_within counts_same_lem (ap counts_of undone_reads ∙ counts_undone (drop place (journal_of C)) (store_of C))
        ∙ between.fewer

    pub cut_reads : cut_to (row_counts U row) (store_of U) ≡ then
    unfolding then snapshot_of row_at
    cut_reads = ap₂ cut_to counts_same_lem undone_reads

    held : FullHolds C (store_of C) (journal_of C) (full_at C row)
    held = full_facts C row (words.rows row set)

    pub cut_sound_lem : back_sound U row ≡ true
    unfolding back_sound totals_kept full_at row_at then journaled_of
    cut_sound_lem =
        let same = full_undone row in
        every_of _ (
          ap sound cut_reads ∙ sound_at (store_of C) (journal_of C) (rows_of C) f.steps row_there,
          (
            every_of _ (
              eq-eqb _ _ (ap (λ (x : Full). x.operands) same ∙ held.operands ∙ ap operand_total (sym cut_reads)),
              (
                eq-eqb _ _ (ap (λ (x : Full). x.successors) same ∙ held.successors ∙ ap successor_total (sym cut_reads)),
                (eq-eqb _ _ (ap (λ (x : Full). x.attributes) same ∙ held.attributes ∙ ap attribute_total (sym cut_reads)), tt),
              ),
            ),
            (
              ap (ranges_end U) counts_same_lem ∙ ranges_behind C U d.behind (row_counts C row) between.fewer held.ranges,
              tt,
            ),
          ),
        )
