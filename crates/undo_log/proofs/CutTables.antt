-- What the tables are once they are cut: they are read as the store cut to the row's counts, and they are sound exactly where that store is,
-- the row's other counts are its totals and the ranges of what stays end within the counts. Assumes nothing.
use Prim.Native.Nat.{ℕ, ◌+◌, ◌*◌, ◌<◌}
use native.Mathlib.Omega.{arith}
use mathlib.Core.Bool.{true}
use mathlib.Core.List.{List}
use mathlib.Core.Path.{◌≡◌, sym, ap, subst, ◌∙◌}
use borrow.Author.Tests.{leb-true, le-leb, eqb-true, eq-eqb}
use lib.Dec.{leb}
use lib.ListN.{length}
use Rattle.rules.specs.Store.{Store, operand_total, successor_total, attribute_total, sound}
use Rattle.rules.proofs.Basics.Tests.{and_left, and_right, and_both, passed, every_of, all_below_at, all_below_of}
use Rattle.rules.proofs.Soundness.Sound.{facts}
use Rattle.layout.specs.Columns.{Cols, buffer_length, columns, at, write_range, counts, mark_counts, op_region_end, op_result_end, block_argument_end}
use Rattle.layout.specs.Reading.{operand_count, successor_count, attribute_count, store_of}
use Rattle.layout.specs.Soundness.{laid_out, sound_buffer}
use Rattle.layout.proofs.Laid.{Laid, Shaped, laid_facts, laid_of}
use Rattle.layout.proofs.Buffer.{columns_shaped}
use Rattle.layout.proofs.Scans.{same_tests}
use Rattle.layout.proofs.Totals.{operand_total_lem, successor_total_lem, attribute_total_lem}
use Rattle.layout.proofs.Empty.{sound_facts, sound_of}
use Rattle.layout.specs.Journal.{Counts, counts_of, cut_to, counts_within}
use Rattle.layout.specs.MarkedReading.{row_counts, ranges_end, totals_kept}
use Rattle.undo_log.specs.CutWrites.{with_column, links_cut, ends_made, children_cut, ops_cut, blocks_cut, tables_cut}
use Rattle.undo_log.specs.CutBack.{back_sound}
use Rattle.undo_log.proofs.CutKeeps.{cut_by, Fewer, cut_read}
use Rattle.undo_log.proofs.LaidBack.{TotalsAre, RangesEnd, laid_back}
use Rattle.undo_log.proofs.CountsTaken.{Counted, taken, fewer}
use Rattle.undo_log.proofs.CutColumns.{columns_of, tables_cut_lem, cut_counts, cut_written}

-- the columns that are cut, as those of before but for five
abbrev columns_after : Cols → ℕ → Cols
columns_after C row = cut_by C (columns_of (tables_cut C row))

module _ (C : Cols) (row : ℕ) (shaped : Shaped C) where
  -- ---- the row's counts of operands, successors and attributes

  cut_total : (i : ℕ) → i < 7 → at (columns_after C row) counts i ≡ at C mark_counts (8 * row + i)
  unfolding at cut_by tables_cut blocks_cut ops_cut children_cut links_cut ends_made with_column write_range
  cut_total i l = taken C row shaped i l

  module _ (s : Store) (read : store_of (columns_after C row) ≡ s) where
    totals_kept_lem : Shaped (columns_after C row) → Laid (columns_after C row) → totals_kept C row s ≡ true
    unfolding totals_kept operand_count successor_count attribute_count
    totals_kept_lem sh l =
        every_of _ (
          eq-eqb _ _ (sym (cut_total 4 (omega arith)) ∙ sym (operand_total_lem (columns_after C row) sh l) ∙ ap operand_total read),
          (
            eq-eqb _ _ (sym (cut_total 5 (omega arith)) ∙ sym (successor_total_lem (columns_after C row) sh l) ∙ ap successor_total read),
            (eq-eqb _ _ (sym (cut_total 6 (omega arith)) ∙ sym (attribute_total_lem (columns_after C row) l) ∙ ap attribute_total read), tt),
          ),
        )

    totals_are : totals_kept C row s ≡ true → TotalsAre (columns_after C row)
    unfolding totals_kept operand_count successor_count attribute_count
    totals_are h =
        let p = passed _ h in
        record {
          operands = cut_total 4 (omega arith) ∙ eqb-true _ _ p.0 ∙ ap operand_total (sym read);
          successors = cut_total 5 (omega arith) ∙ eqb-true _ _ p.1.0 ∙ ap successor_total (sym read);
          attributes = cut_total 6 (omega arith) ∙ eqb-true _ _ p.1.1.0 ∙ ap attribute_total (sym read);
        }

  -- ---- where ranges end

  module _ (k : Counts) (n : Counted k (columns_after C row)) where
    ranges_end_lem : Laid (columns_after C row) → ranges_end C k ≡ true
    unfolding ranges_end at cut_by
    ranges_end_lem l =
        every_of _ (
          all_below_of _ _
              (λ i b. let o = l.op i (omega (arith, n.ops)) in
              and_both _ _ (le-leb (at C op_region_end i) k.regions (omega (arith, n.regions, o.regions.range.fits)))
              (le-leb (at C op_result_end i) k.values (omega (arith, n.values, o.results.range.fits)))),
          (
            all_below_of _ _
                (λ i b. le-leb (at C block_argument_end i) k.values (omega (arith, n.values, (l.block i (omega (arith, n.blocks))).arguments.range.fits))),
            tt,
          ),
        )

    ends_within : ranges_end C k ≡ true → RangesEnd (columns_after C row)
    unfolding ranges_end at cut_by
    ends_within h =
        let p = passed _ h in
        record {
          regions = λ i b. omega (arith, n.regions, leb-true (at C op_region_end i) k.regions (and_left _ _ (all_below_at _ _ p.0 i (omega (arith, n.ops)))));
          results = λ i b.
              omega (arith, n.values, leb-true (at C op_result_end i) k.values (and_right (leb (at C op_region_end i) k.regions) _ (all_below_at _ _ p.0 i (omega (arith, n.ops)))));
          arguments = λ i b. omega (arith, n.values, leb-true (at C block_argument_end i) k.values (all_below_at _ _ p.1.0 i (omega (arith, n.blocks))));
        }

-- ---- the tables

module _ (C : Cols) (row : ℕ) (shaped : Shaped C) (h : Laid C) (within : counts_within (row_counts C row) (counts_of (store_of C)) ≡ true) where
  few : Fewer C (columns_after C row)
  few = fewer C (columns_after C row) (row_counts C row) (cut_counts C row shaped) within

  after_read : store_of (columns_after C row) ≡ cut_to (row_counts C row) (store_of C)
  after_read =
      let n = cut_counts C row shaped in
      cut_read C (columns_of (tables_cut C row)) (row_counts C row) n.ops n.blocks n.regions n.values few

  pub tables_read : store_of (tables_cut C row) ≡ cut_to (row_counts C row) (store_of C)
  tables_read = ap store_of (tables_cut_lem C row) ∙ after_read

  after_sound : Shaped (columns_after C row) → laid_out (columns_after C row) ≡ true → sound (store_of (columns_after C row)) ≡ true → back_sound C row ≡ true
  unfolding back_sound
  after_sound sh l r =
      let laid = laid_facts (columns_after C row) l in
      every_of _ (
        ap sound (sym after_read) ∙ r,
        (totals_kept_lem C row shaped _ after_read sh laid, (ranges_end_lem C row shaped (row_counts C row) (cut_counts C row shaped) laid, tt)),
      )

  sound_after : back_sound C row ≡ true → (laid_out (columns_after C row) ≡ true) × (sound (store_of (columns_after C row)) ≡ true)
  unfolding back_sound
  sound_after t =
      let p = passed _ t in
      let r = ap sound after_read ∙ p.0 in (
        laid_of (columns_after C row)
            (laid_back C (columns_of (tables_cut C row)) h few (cut_written C row shaped h few) (facts (store_of (columns_after C row)) r)
            (totals_are C row shaped _ after_read p.1.0)
            (ends_within C row shaped (row_counts C row) (cut_counts C row shaped) p.1.1.0)
            shaped),
        r,
      )

  -- of a buffer with these columns
  pub tables_sound : (b : List ℕ) → length b ≡ buffer_length → columns b ≡ tables_cut C row → sound_buffer b ≡ back_sound C row
  tables_sound b long e =
      let same : columns b ≡ columns_after C row = e ∙ tables_cut_lem C row in
      same_tests (sound_buffer b) (back_sound C row)
      (λ t. let s = sound_facts b t in
      after_sound (subst Shaped same (columns_shaped b long)) (ap laid_out (sym same) ∙ s.laid) (ap (λ (X : Cols). sound (store_of X)) (sym same) ∙ s.ruled))
      (λ t. let s = sound_after t in
      sound_of b (record { sized = long; laid = ap laid_out same ∙ s.0; ruled = ap (λ (X : Cols). sound (store_of X)) same ∙ s.1 }))
