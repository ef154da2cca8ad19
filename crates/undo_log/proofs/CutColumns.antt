-- The columns that cutting writes: all but five are as they were, and of those what is written of counts, links and ends. Assumes nothing.
use Prim.Native.Nat.{ℕ, ◌+◌, ◌<◌, ◌≤◌}
use native.Mathlib.Omega.{arith}
use mathlib.Core.Bool.{Bool, true, false, cond}
use mathlib.Core.List.{List}
use mathlib.Core.Path.{◌≡◌, refl, ap, ◌∙◌, fun_ext}
use borrow.Author.Tests.{eqb-true, ne_eqb}
use lib.Dec.{eqb}
use lib.ListN.{length, get_or, replicate, length-replicate}
use Rattle.layout.specs.Columns.{Cols, at, pasted, write_range, counts, op_parent, op_region_end, op_result_end, op_next, region_block_end, block_region, block_op_end, block_argument_end, block_next}
use Rattle.layout.specs.Reading.{op_count, block_count, region_count, value_count}
use Rattle.layout.proofs.Laid.{Laid, Shaped}
use Rattle.layout.proofs.Pasted.{pasted_length, pasted_new}
use Rattle.layout.proofs.Empty.{zeros}
use Rattle.layout.specs.MarkedReading.{row_counts}
use Rattle.undo_log.specs.CutWrites.{with_column, first_by, counts_taken, link_cut, ends_of, links_cut, ends_made, children_cut, ops_cut, blocks_cut, tables_cut}
use Rattle.undo_log.specs.CutBack.{MarksKept}
use Rattle.undo_log.proofs.Written.{first_at_lem}
use Rattle.undo_log.proofs.Ends.{ends_low, ends_hold}
use Rattle.undo_log.proofs.Relinked.{Relinked}
use Rattle.undo_log.proofs.CutKeeps.{Columns, cut_by, Fewer}
use Rattle.undo_log.proofs.LaidBack.{Rewritten}
use Rattle.undo_log.proofs.CountsTaken.{Counted, taken_counts, marks_kept}

-- ---- the columns that are others

abbrev pub columns_of : Cols → Columns
columns_of D = record { counts = D counts; block_ends = D region_block_end; op_ends = D block_op_end; op_links = D op_next; block_links = D block_next }

-- column j is none of them
pub record Other (j : ℕ) : Type 0 where
  pub counts : eqb j counts ≡ false
  pub block_ends : eqb j region_block_end ≡ false
  pub op_ends : eqb j block_op_end ≡ false
  pub op_links : eqb j op_next ≡ false
  pub block_links : eqb j block_next ≡ false

-- D is C but for the five
cut_by_lem : (C D : Cols) → ((j : ℕ) → Other j → D j ≡ C j) → D ≡ cut_by C (columns_of D)
unfolding cut_by
cut_by_lem C D same =
    fun_ext
    (λ (j : ℕ).
    pick j counts (eqb j counts) refl
    (λ a. pick j region_block_end (eqb j region_block_end) refl
    (λ b. pick j block_op_end (eqb j block_op_end) refl
    (λ c. pick j op_next (eqb j op_next) refl
    (λ d. pick j block_next (eqb j block_next) refl
    (λ e. same j (record { counts = a; block_ends = b; op_ends = c; op_links = d; block_links = e })))))))
  where
    pick : (j k : ℕ) (t : Bool) → eqb j k ≡ t → {xs : List ℕ} → (eqb j k ≡ false → D j ≡ xs) → D j ≡ cond t (D k) xs
    pick j k true e f = ap D (eqb-true j k e)
    pick j k false e f = f e

cut_other : (C : Cols) (row j : ℕ) → Other j → tables_cut C row j ≡ C j
unfolding tables_cut blocks_cut ops_cut children_cut counts_taken links_cut ends_made with_column write_range
cut_other C row j o = rw (o.counts, o.block_ends, o.op_ends, o.op_links, o.block_links) refl

pub tables_cut_lem : (C : Cols) (row : ℕ) → tables_cut C row ≡ cut_by C (columns_of (tables_cut C row))
tables_cut_lem C row = cut_by_lem C (tables_cut C row) (cut_other C row)

-- ---- links and ends

-- the first words are 0
abbrev zeroed : List ℕ → ℕ → List ℕ
zeroed xs n = pasted xs 0 (replicate n 0)

module _ (xs : List ℕ) (n : ℕ) (l : n ≤ length xs) where
  zeros_fit : 0 + length {A = ℕ} (replicate n 0) ≤ length xs
  zeros_fit = rw length-replicate (omega arith)

  zeroed_length : length (zeroed xs n) ≡ length xs
  zeroed_length = pasted_length xs 0 (replicate n 0) zeros_fit

  zeroed_at : (i : ℕ) → i < n → get_or (zeroed xs n) i 0 ≡ 0
  zeroed_at i h =
      let z : i ≡ 0 + i = omega arith in
      ap (λ (j : ℕ). get_or (zeroed xs n) j 0) z ∙ pasted_new xs 0 (replicate n 0) zeros_fit i (rw length-replicate h) ∙ zeros n i

relinked : (owners links ends : List ℕ) (offset N most : ℕ) → N ≤ length links → length ends ≡ 256 → most ≤ 256
    → Relinked owners links (first_by N (λ (i : ℕ). link_cut N (get_or links i 0)) links) (ends_of owners offset N (zeroed ends most)) offset N most 256
relinked owners links ends offset N most ll le lm =
    let fits : most ≤ length ends = omega arith in
    let long = zeroed_length ends most fits in
    record {
      links = λ n l. first_at_lem N (λ (i : ℕ). link_cut N (get_or links i 0)) links n l (omega arith);
      ends = λ b l. ends_hold offset owners N b (zeroed ends most) (omega arith);
      low = λ b l. ends_low offset owners N b (zeroed ends most) (omega arith) (zeroed_at ends most fits b l);
    }

module _ (C : Cols) (row : ℕ) (shaped : Shaped C) where
  pub cut_counts : Counted (row_counts C row) (cut_by C (columns_of (tables_cut C row)))
  unfolding at op_count block_count region_count value_count cut_by tables_cut blocks_cut ops_cut children_cut links_cut ends_made with_column write_range
  cut_counts = let t = taken_counts C row shaped in record { ops = t.ops; blocks = t.blocks; regions = t.regions; values = t.values }

  pub cut_written : Laid C → Fewer C (cut_by C (columns_of (tables_cut C row))) → Rewritten C (columns_of (tables_cut C row))
  unfolding at op_count block_count region_count cut_by tables_cut blocks_cut ops_cut children_cut counts_taken links_cut ends_made with_column write_range
  cut_written h few =
      let k = h.counts in
      let D = cut_by C (columns_of (tables_cut C row)) in
      record {
        ops =
            relinked (C op_parent) (C op_next) (C block_op_end) 1 (op_count D) (block_count D)
            (omega (arith, few.ops, k.ops, shaped op_next)) (shaped block_op_end) (omega (arith, few.blocks, k.blocks));
        blocks =
            relinked (C block_region) (C block_next) (C region_block_end) 0 (block_count D) (region_count D)
            (omega (arith, few.blocks, k.blocks, shaped block_next)) (shaped region_block_end) (omega (arith, few.regions, k.regions));
      }

  -- ---- what marks rest on

  pub cut_marks : MarksKept C (tables_cut C row)
  unfolding at tables_cut blocks_cut ops_cut children_cut links_cut ends_made with_column write_range
  cut_marks =
      record {
        words = λ j l.
            cut_other C row j
            (record {
              counts = ne_eqb j counts (λ e. omega arith);
              block_ends = ne_eqb j region_block_end (λ e. omega arith);
              op_ends = ne_eqb j block_op_end (λ e. omega arith);
              op_links = ne_eqb j op_next (λ e. omega arith);
              block_links = ne_eqb j block_next (λ e. omega arith);
            });
        marks = marks_kept C row shaped;
        region_ends = cut_other C row op_region_end (record { counts = refl; block_ends = refl; op_ends = refl; op_links = refl; block_links = refl });
        result_ends = cut_other C row op_result_end (record { counts = refl; block_ends = refl; op_ends = refl; op_links = refl; block_links = refl });
        argument_ends = cut_other C row block_argument_end (record { counts = refl; block_ends = refl; op_ends = refl; op_links = refl; block_links = refl });
      }
