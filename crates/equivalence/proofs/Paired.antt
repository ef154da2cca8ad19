-- Two operations or two blocks that are alike have as many values, which are entered from the first on; so what the code enters is
-- what the rules enter. Assumes nothing.
use Rattle.std.specs.Prelude.{Ok, Err}
use Prim.Native.Nat.{ℕ, ◌+◌, ◌<◌, ◌≤◌}
use native.Mathlib.Omega.{arith}
use mathlib.Core.Bool.{true, false}
use mathlib.Core.List.{List}
use mathlib.Core.Path.{◌≡◌, refl, sym, ap, ◌∙◌}
use Rattle.rules.specs.Store.{Store, values_of, max_values}
use Rattle.rules.specs.declared.types.Owner.{Owner}
use Rattle.rules.specs.declared.types.Owner.TheVariants.{Op as of_op, Block as of_block}
use Rattle.rules.specs.Shells.{same_shells}
use Rattle.rules.specs.Comparison.{standing, expect, enter_ops, pair_ops, enter_blocks, pair_blocks}
use Rattle.rules.specs.Answers.{comparison_of}
use Rattle.rules.proofs.Basics.Tests.{and_right}
use Rattle.rules.proofs.RenamedTypes.Renamed.{values_renamed}
use Rattle.layout.specs.Columns.{Cols, columns}
use Rattle.layout.specs.Reading.{op_count, store_of, store_in, consecutive}
use Rattle.layout.specs.Soundness.{IsSound}
use Rattle.equivalence.specs.MappingWords.{mapping_of, op_mapped, block_mapped, values_mapped}
use Rattle.fragments.specs.Options.{Options, renamed_under}
use Rattle.fragments.specs.Rows.{RowOf}
use Rattle.fragments.specs.declared.types.ShellRow.{ShellRow}
use Rattle.fragments.proofs.ByRows.{head_of_op, head_whole}
use Rattle.equivalence.specs.Rows.{same_heads, same_rows}
use Rattle.equivalence.specs.Compares.{answer_of, state_of, outcome}
use Rattle.equivalence.specs.Compares.{Compares}
use Rattle.equivalence.specs.declared.verdicts.Unequal.TheVariants.{FirstNEQOps, FirstNEQBlocks}
use Rattle.equivalence.proofs.Alike.{op_shells_lem, block_shells_lem, as_many}

-- ---- the values of two rows

-- the values of two rows that are alike: ranges within the store's, as many on both sides
pub record Side (C : Cols) (w v : Owner) (l r : ShellRow) : Type 0 where
  pub left_fits : l.value + l.values ≤ max_values
  pub right_fits : r.value + l.values ≤ max_values
  pub left : values_of (store_of C) w ≡ consecutive l.value l.values
  pub right : values_of (store_of C) v ≡ consecutive r.value l.values

side : {C : Cols} {w v : Owner} {l r : ShellRow} → RowOf C w l → RowOf C v r → l.values ≡ r.values → Side C w v l r
side {l = l} {r = r} hl hr e =
    record {
      left_fits = hl.fits.values;
      right_fits = omega (arith, hr.fits.values);
      left = hl.values;
      right = hr.values ∙ ap (consecutive r.value) (sym e);
    }

module _ (b : List ℕ) (o : Options) (x y : ℕ) {l r : ShellRow} where
  pub op_side : IsSound b → x < op_count (columns b) → y < op_count (columns b) → RowOf (columns b) (of_op x) l → RowOf (columns b) (of_op y) r
      → same_shells (renamed_under o (store_in b)) o.ignore (of_op x) (of_op y) ≡ true → Side (columns b) (of_op x) (of_op y) l r
  op_side s lx ly el er t =
      let same = sym (op_shells_lem o (head_whole b s x lx) (head_whole b s y ly) el er) ∙ t in
      side el er (as_many (columns b) o l r (and_right (same_heads (head_of_op (columns b) x) (head_of_op (columns b) y)) (same_rows (columns b) o l r) same))

  pub block_side : RowOf (columns b) (of_block x) l → RowOf (columns b) (of_block y) r → same_shells (renamed_under o (store_in b)) o.ignore (of_block x) (of_block y) ≡ true
      → Side (columns b) (of_block x) (of_block y) l r
  block_side el er t = side el er (as_many (columns b) o l r (sym (block_shells_lem o el er) ∙ t))

-- ---- what is told

module _ (s : Store) (o : Options) (l r : ℕ) (b : List ℕ) (n : ℕ) where
  pub ops_unlike : same_shells (renamed_under o s) o.ignore (of_op l) (of_op r) ≡ false → Compares (pair_ops (renamed_under o s) o.ignore l r (state_of b n)) (Err (FirstNEQOps l r n)) b
  unfolding Compares outcome pair_ops expect comparison_of standing answer_of state_of
  ops_unlike e = rw e refl

  pub blocks_unlike : same_shells (renamed_under o s) o.ignore (of_block l) (of_block r) ≡ false → Compares (pair_blocks (renamed_under o s) o.ignore l r (state_of b n)) (Err (FirstNEQBlocks l r n)) b
  unfolding Compares outcome pair_blocks expect comparison_of standing answer_of state_of
  blocks_unlike e = rw e refl

  module _ (c : List ℕ) (ls rs : List ℕ) where
    pub ops_alike : same_shells (renamed_under o s) o.ignore (of_op l) (of_op r) ≡ true → values_of s (of_op l) ≡ ls → values_of s (of_op r) ≡ rs
        → mapping_of c ≡ values_mapped (op_mapped (mapping_of b) l r) ls rs → Compares (pair_ops (renamed_under o s) o.ignore l r (state_of b n)) (Ok (n + 1)) c
    unfolding Compares outcome pair_ops expect comparison_of standing answer_of state_of enter_ops values_mapped op_mapped
    ops_alike e el er m = rw (e, values_renamed o.types s (of_op l) ∙ el, values_renamed o.types s (of_op r) ∙ er, m) refl

    pub blocks_alike : same_shells (renamed_under o s) o.ignore (of_block l) (of_block r) ≡ true → values_of s (of_block l) ≡ ls → values_of s (of_block r) ≡ rs
        → mapping_of c ≡ values_mapped (block_mapped (mapping_of b) l r) ls rs → Compares (pair_blocks (renamed_under o s) o.ignore l r (state_of b n)) (Ok (n + 1)) c
    unfolding Compares outcome pair_blocks expect comparison_of standing answer_of state_of enter_blocks values_mapped block_mapped
    blocks_alike e el er m = rw (e, values_renamed o.types s (of_block l) ∙ el, values_renamed o.types s (of_block r) ∙ er, m) refl
