-- The counts of a mark's row in the place of the tables' own: none is above what there was, so the rows that stay name owners that exist. Assumes nothing.
use Prim.Native.Nat.{ℕ, ◌+◌, ◌*◌, ◌<◌, ◌≤◌}
use native.Mathlib.Nat.{add-zero}
use native.Mathlib.Omega.{arith}
use mathlib.Core.Bool.{true}
use mathlib.Core.Path.{◌≡◌, refl, sym, ap, subst, ◌∙◌}
use borrow.Author.Tests.{leb-true}
use lib.ListN.{length}
use Rattle.rules.proofs.Basics.Tests.{passed}
use Rattle.layout.specs.Columns.{Cols, at, write_range, counts, mark_counts, op_parent, block_region}
use Rattle.layout.specs.Reading.{op_count, block_count, region_count, value_count, store_of}
use Rattle.layout.specs.Families.{ops_in_blocks, blocks_in_regions}
use Rattle.layout.proofs.Laid.{Laid, Shaped}
use Rattle.layout.proofs.Linking.{parent_low}
use Rattle.layout.proofs.Tabulate.{ops_length, blocks_length, regions_length, values_length}
use Rattle.layout.specs.Journal.{Counts, counts_of, counts_within}
use Rattle.layout.specs.MarkedReading.{row_counts}
use Rattle.undo_log.specs.CutWrites.{with_column, counts_taken, links_cut, ends_made, ChildrenFit, children_cut, ops_cut}
use Rattle.undo_log.proofs.Written.{first_at_lem, first_past}
use Rattle.undo_log.proofs.CutKeeps.{Fewer}

-- the counts of D are these
pub record Counted (k : Counts) (D : Cols) : Type 0 where
  pub ops : op_count D ≡ k.ops
  pub blocks : block_count D ≡ k.blocks
  pub regions : region_count D ≡ k.regions
  pub values : value_count D ≡ k.values

module _ (C : Cols) (row : ℕ) (shaped : Shaped C) where
  pub taken : (i : ℕ) → i < 7 → at (counts_taken C row) counts i ≡ at C mark_counts (8 * row + i)
  unfolding at counts_taken with_column
  taken i l = first_at_lem 7 (λ (j : ℕ). at C mark_counts (8 * row + j)) (C counts) i l (omega (arith, shaped counts))

  pub marks_kept : at (counts_taken C row) counts 7 ≡ at C counts 7
  unfolding at counts_taken with_column
  marks_kept = first_past 7 (λ (j : ℕ). at C mark_counts (8 * row + j)) (C counts) 7 (omega arith)

  pub taken_counts : Counted (row_counts C row) (counts_taken C row)
  unfolding row_counts op_count block_count region_count value_count
  taken_counts =
      record {
        ops = taken 0 (omega arith) ∙ ap (at C mark_counts) (add-zero (8 * row));
        blocks = taken 1 (omega arith);
        regions = taken 2 (omega arith);
        values = taken 3 (omega arith);
      }

pub fewer : (C D : Cols) (k : Counts) → Counted k D → counts_within k (counts_of (store_of C)) ≡ true → Fewer C D
unfolding counts_within counts_of
fewer C D k e h =
    let p = passed _ h in
    record {
      ops = omega (arith, e.ops, ops_length C, leb-true k.ops (length (store_of C).ops) p.0);
      blocks = omega (arith, e.blocks, blocks_length C, leb-true k.blocks (length (store_of C).blocks) p.1.0);
      regions = omega (arith, e.regions, regions_length C, leb-true k.regions (length (store_of C).regions) p.1.1.0);
      values = omega (arith, e.values, values_length C, leb-true k.values (length (store_of C).values) p.1.1.1.0);
    }

-- ---- the owners of what stays

module _ (C D : Cols) (h : Laid C) (few : Fewer C D) where
  pub parents_low : (n : ℕ) → n < op_count D → at C op_parent n ≤ 256
  parents_low n l = omega (arith, h.counts.blocks, parent_low C n (at C op_parent n) (h.op n (omega (arith, few.ops))).place)

  pub regions_low : (m : ℕ) → m < block_count D → at C block_region m < 256
  regions_low m l = omega (arith, h.counts.regions, (h.block m (omega (arith, few.blocks))).region_in)

-- what the code asks of the columns that it cuts

module _ (C : Cols) (row : ℕ) (shaped : Shaped C) (h : Laid C) (within : counts_within (row_counts C row) (counts_of (store_of C)) ≡ true) where
  few : Fewer C (counts_taken C row)
  few = fewer C (counts_taken C row) (row_counts C row) (taken_counts C row shaped) within

  taken_fit : ChildrenFit (counts_taken C row) ops_in_blocks
  unfolding at op_count block_count counts_taken with_column
  taken_fit =
      record {
        table_in = omega arith;
        owners_in = omega arith;
        links_in = omega arith;
        ends_in = omega arith;
        links_apart = refl;
        ends_apart = refl;
        few = omega (arith, few.ops, h.counts.ops);
        owners_long = omega (arith, few.ops, h.counts.ops);
        links_long = omega (arith, few.ops, h.counts.ops);
        ends_long = omega (arith, few.blocks, h.counts.blocks);
        words = λ i l. omega (arith, parents_low C (counts_taken C row) h few i l);
      }

  cut_fit : ChildrenFit (ops_cut (counts_taken C row)) blocks_in_regions
  unfolding at block_count region_count ops_cut children_cut counts_taken links_cut ends_made with_column write_range
  cut_fit =
      record {
        table_in = omega arith;
        owners_in = omega arith;
        links_in = omega arith;
        ends_in = omega arith;
        links_apart = refl;
        ends_apart = refl;
        few = omega (arith, few.blocks, h.counts.blocks);
        owners_long = omega (arith, few.blocks, h.counts.blocks);
        links_long = omega (arith, few.blocks, h.counts.blocks);
        ends_long = omega (arith, few.regions, h.counts.regions);
        words = λ i l. omega (arith, regions_low C (counts_taken C row) h few i l);
      }

  pub ops_fit : {D : Cols} → D ≡ counts_taken C row → ChildrenFit D ops_in_blocks
  ops_fit e = subst (λ (X : Cols). ChildrenFit X ops_in_blocks) (sym e) taken_fit

  pub blocks_fit : {D : Cols} → D ≡ ops_cut (counts_taken C row) → ChildrenFit D blocks_in_regions
  blocks_fit e = subst (λ (X : Cols). ChildrenFit X blocks_in_regions) (sym e) cut_fit
