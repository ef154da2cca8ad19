-- Rows that hold go on holding: when others go, when the journal before the oldest goes, and when tables stay; and the present holds. Assumes
-- nothing.
use Prim.Native.Nat.{ℕ, ◌<◌}
use native.Mathlib.Omega.{arith}
use mathlib.Core.Bool.{true}
use mathlib.Core.List.{List, [], ◌∷◌, map}
use mathlib.Core.Path.{◌≡◌, refl, sym, ap, ◌∙◌}
use borrow.Author.Tests.{le-leb, ne_eqb}
use lib.ListN.{length, drop}
use Rattle.rules.specs.Store.{Store, operand_total, successor_total, attribute_total}
use Rattle.rules.specs.Marks.{Mark, new_mark}
use Rattle.rules.proofs.Basics.Tests.{and_both, every_of, all_below_of}
use Rattle.layout.specs.Columns.{Cols, columns, at, op_region_end, op_result_end, block_argument_end}
use Rattle.layout.specs.Reading.{op_count, block_count, store_of}
use Rattle.layout.specs.Soundness.{IsSound}
use Rattle.layout.proofs.Laid.{Laid}
use Rattle.layout.proofs.Tabulate.{ops_length, blocks_length, regions_length, values_length}
use Rattle.mutation.proofs.Facts.{laid, operands_counted, successors_counted, attributes_counted}
use Rattle.layout.specs.Journal.{Entry, counts_of, MarkRow, snapshot_of, mark_of, placed_back}
use Rattle.layout.specs.MarkedReading.{mark_count, journal_of, ranges_end, journal_holds}
use Rattle.undo_log.proofs.ReadMark.{placed_mark, new_mark_lem}
use Rattle.undo_log.proofs.Tables.{TablesKept, store_kept, ranges_kept}
use Rattle.undo_log.proofs.Listed.{Every, every_tabulate}
use Rattle.undo_log.proofs.Standing.{Full, full_at, fulls_of, new_full, full_back}
use Rattle.undo_log.proofs.Holding.{holds_facts, FullHolds, full_facts}
use Rattle.undo_log.proofs.Oldest.{From}

-- by its snapshot and its counts
pub held_as : (C D : Cols) (s t : Store) (journal rest : List Entry) (f : Full) (r : MarkRow) → snapshot_of t rest r ≡ snapshot_of s journal f.row
    → ranges_end D r.counts ≡ ranges_end C f.row.counts → FullHolds C s journal f
    → FullHolds D t rest (record { row = r; operands = f.operands; successors = f.successors; attributes = f.attributes })
held_as C D s t journal rest f r same ranges h =
    record {
      operands = h.operands ∙ ap operand_total (sym same);
      successors = h.successors ∙ ap successor_total (sym same);
      attributes = h.attributes ∙ ap attribute_total (sym same);
      ranges = ranges ∙ h.ranges;
    }

-- all rows of columns that hold
pub rows_held : (C : Cols) → journal_holds C ≡ true → Every (FullHolds C (store_of C) (journal_of C)) (fulls_of C)
unfolding fulls_of
rows_held C h =
    every_tabulate _ (mark_count C) (full_at C)
    (λ i l. full_facts C i ((holds_facts C h (ne_eqb (mark_count C) 0 (λ e. let w : ⊥ = omega arith in w))).rows i l))

-- ---- the present

ranges_end_lem : (C : Cols) → Laid C → ranges_end C (counts_of (store_of C)) ≡ true
unfolding ranges_end counts_of
ranges_end_lem C h =
    every_of _ (
      all_below_of (length (store_of C).ops) _
          (λ n l. let m : n < op_count C = omega (arith, ops_length C) in
          and_both _ _ (le-leb (at C op_region_end n) _ (omega (arith, (h.op n m).regions.range.fits, regions_length C)))
          (le-leb (at C op_result_end n) _ (omega (arith, (h.op n m).results.range.fits, values_length C)))),
      (
        all_below_of (length (store_of C).blocks) _
            (λ n l. let m : n < block_count C = omega (arith, blocks_length C) in
            le-leb (at C block_argument_end n) _ (omega (arith, (h.block n m).arguments.range.fits, values_length C))),
        tt,
      ),
    )

pub present_held : (b : List ℕ) → IsSound b → (journal : List Entry) (k : ℕ) → FullHolds (columns b) (store_of (columns b)) journal (new_full (columns b) k (length journal))
unfolding mark_of new_mark
present_held b h journal k =
    let s = store_of (columns b) in
    let same : snapshot_of s journal (record { number = k; counts = counts_of s; place = length journal }) ≡ s = ap (λ (m : Mark). m.snapshot) (new_mark_lem s journal k) in
    record {
      operands = sym (operands_counted b h) ∙ ap operand_total (sym same);
      successors = sym (successors_counted b h) ∙ ap successor_total (sym same);
      attributes = sym (attributes_counted b h) ∙ ap attribute_total (sym same);
      ranges = ranges_end_lem (columns b) (laid b h);
    }

-- ---- when the journal before entry n goes

pub held_back : (C : Cols) (s : Store) (journal : List Entry) (n : ℕ) (fs : List Full) → Every (From n) fs → Every (FullHolds C s journal) fs
    → Every (FullHolds C s (drop n journal)) (map (full_back n) fs)
unfolding mark_of placed_back
held_back C s journal n [] later h = tt
held_back C s journal n (f ∷ fs) later h = (
  held_as C C s s journal (drop n journal) f (placed_back n f.row) (ap (λ (m : Mark). m.snapshot) (sym (placed_mark s journal n f.row later.0))) refl h.0,
  held_back C s journal n fs later.1 h.1,
)

-- ---- when the tables stay

pub held_kept : (B C : Cols) → TablesKept B C → (journal : List Entry) (f : Full) → FullHolds B (store_of B) journal f → FullHolds C (store_of C) journal f
held_kept B C kept journal f h =
    held_as B C (store_of B) (store_of C) journal journal f f.row (ap (λ (s : Store). snapshot_of s journal f.row) (store_kept B C kept)) (ranges_kept B C kept f.row.counts) h
