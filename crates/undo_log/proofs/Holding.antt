-- Which words hold behind the tables, by name: how long the journal is, what is counted of it, and each mark's row. Assumes nothing.
use Prim.Native.Nat.{ℕ, ◌<◌, ◌≤◌}
use native.Mathlib.Omega.{arith}
use mathlib.Core.Bool.{Bool, true, false, cond}
use mathlib.Core.List.{List, [], ◌∷◌}
use mathlib.Core.Path.{◌≡◌, refl, sym, ap, ◌∙◌}
use borrow.Author.Tests.{leb-true, le-leb, eqb-true, eq-eqb, ne_eqb}
use lib.Dec.{eqb, leb}
use Rattle.rules.specs.Lists.{every, all_below}
use Rattle.rules.specs.Store.{Store, operand_total, successor_total, attribute_total}
use Rattle.rules.proofs.Basics.Tests.{and_left, and_right, and_both, passed, every_of, all_below_at, all_below_of}
use Rattle.layout.specs.Columns.{Cols, at, journal_counts}
use Rattle.layout.specs.Reading.{tabulate, store_of}
use Rattle.layout.specs.Journal.{Entry, replaced_in, snapshot_of}
use Rattle.layout.specs.MarkedReading.{mark_count, entry_count, entry_at, journal_of, row_counts, row_at, max_entries, ranges_end, totals_kept, row_holds, journal_holds}
use Rattle.undo_log.proofs.Standing.{Full, full_at}

pub record Remembered (C : Cols) : Type 0 where
  pub short : entry_count C ≤ max_entries
  pub counted : at C journal_counts 1 ≡ replaced_in (journal_of C)
  pub rows : (i : ℕ) → i < mark_count C → row_holds C i ≡ true

abbrev tested : Cols → List Bool
tested C = leb (entry_count C) max_entries ∷ eqb (at C journal_counts 1) (replaced_in (journal_of C)) ∷ all_below (mark_count C) (row_holds C) ∷ []

pub holds_facts : (C : Cols) → journal_holds C ≡ true → eqb (mark_count C) 0 ≡ false → Remembered C
unfolding journal_holds
holds_facts C h e =
    let p = passed (tested C) (sym (ap (λ (t : Bool). cond t true (every (tested C))) e) ∙ h) in
    record { short = leb-true _ max_entries p.0; counted = eqb-true _ _ p.1.0; rows = all_below_at (mark_count C) (row_holds C) p.1.1.0 }

pub holds_of : (C : Cols) → Remembered C → journal_holds C ≡ true
unfolding journal_holds
holds_of C h =
    go (eqb (mark_count C) 0) (every (tested C))
    (every_of (tested C) (le-leb _ max_entries h.short, (eq-eqb _ _ h.counted, (all_below_of (mark_count C) (row_holds C) h.rows, tt))))
  where
    go : (t x : Bool) → x ≡ true → cond t true x ≡ true
    go true x e = refl
    go false x e = e

-- while a mark is set, the journal is its entries
pub journal_set : (C : Cols) → 0 < mark_count C → journal_of C ≡ tabulate (entry_count C) (entry_at C)
unfolding journal_of
journal_set C l = ap (λ (t : Bool). cond t [] (tabulate (entry_count C) (entry_at C))) (ne_eqb (mark_count C) 0 (λ e. omega arith))

-- ---- a mark's row

pub record FullHolds (C : Cols) (s : Store) (journal : List Entry) (f : Full) : Type 0 where
  pub operands : f.operands ≡ operand_total (snapshot_of s journal f.row)
  pub successors : f.successors ≡ successor_total (snapshot_of s journal f.row)
  pub attributes : f.attributes ≡ attribute_total (snapshot_of s journal f.row)
  pub ranges : ranges_end C f.row.counts ≡ true

pub full_facts : (C : Cols) (i : ℕ) → row_holds C i ≡ true → FullHolds C (store_of C) (journal_of C) (full_at C i)
unfolding row_holds totals_kept full_at row_at
full_facts C i h =
    let s = snapshot_of (store_of C) (journal_of C) (row_at C i) in
    let p = passed _ (and_left (totals_kept C i s) (ranges_end C (row_counts C i)) h) in
    record {
      operands = eqb-true _ _ p.0;
      successors = eqb-true _ _ p.1.0;
      attributes = eqb-true _ _ p.1.1.0;
      ranges = and_right (totals_kept C i s) (ranges_end C (row_counts C i)) h;
    }

pub full_of : (C : Cols) (i : ℕ) → FullHolds C (store_of C) (journal_of C) (full_at C i) → row_holds C i ≡ true
unfolding row_holds totals_kept full_at row_at
full_of C i h = and_both _ _ (every_of _ (eq-eqb _ _ h.operands, (eq-eqb _ _ h.successors, (eq-eqb _ _ h.attributes, tt)))) h.ranges
