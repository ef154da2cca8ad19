-- The totals of a store that is cut: the slices of a shared list that stay end where the last of them ends. Assumes nothing.
use Prim.Native.Nat.{ℕ, zero, suc, ◌+◌, ◌<◌, ◌≤◌}
use native.Mathlib.Nat.{not-suc-le-zero}
use native.Mathlib.Decide.{ℕ_discrete}
use native.Mathlib.Omega.{arith}
use mathlib.Core.List.{List}
use mathlib.Core.Path.{◌≡◌, refl, sym, ap, ap₂, ◌∙◌}
use lib.ListN.{length, get_or}
use Rattle.rules.specs.Store.{Op, Block, operand_total, successor_total, attribute_total}
use Rattle.layout.specs.Columns.{Cols, at, op_operand_first, op_operand_end, op_successor_first, op_successor_end, op_attributes, block_attributes}
use Rattle.layout.specs.Reading.{op_count, block_count, operand_count, successor_count, op_of, block_of, store_of}
use Rattle.layout.specs.Soundness.{end_before, attribute_sum}
use Rattle.layout.proofs.Laid.{Laid, Shaped, Tiled}
use Rattle.layout.proofs.Totals.{sum_same, slice_lengths, sum_tiled, op_keys, block_keys_lem, operands_length, successors_length}
use Rattle.undo_log.proofs.CutKeeps.{Columns, cut_by, op_same}

pub attributes_summed : (C : Cols) → attribute_total (store_of C) ≡ attribute_sum C
unfolding attribute_total store_of attribute_sum
attributes_summed C =
    ap₂ ◌+◌ (sum_same (λ (o : Op). length o.attributes) (op_of C) (op_count C) (at C op_attributes) (λ k l. op_keys C k))
    (sum_same (λ (b : Block). length b.attributes) (block_of C) (block_count C) (at C block_attributes) (λ k l. block_keys_lem C k))

module _ (C : Cols) (x : Columns) (shaped : Shaped C) (h : Laid C) (few : op_count (cut_by C x) ≤ op_count C) where
  pub operands_end : operand_total (store_of (cut_by C x)) ≡ end_before C op_operand_end (op_count (cut_by C x))
  unfolding operand_total store_of
  operands_end =
      sum_same (λ (o : Op). length o.operands) (op_of (cut_by C x)) (op_count (cut_by C x)) (slice_lengths C op_operand_first op_operand_end)
      (λ n l. ap (λ (o : Op). length o.operands) (op_same C x n) ∙ operands_length C shaped h n (omega arith))
      ∙ sum_tiled C op_operand_first op_operand_end (op_count (cut_by C x)) (operand_count C) (λ n l. (h.op n (omega arith)).operands)

  pub successors_end : successor_total (store_of (cut_by C x)) ≡ end_before C op_successor_end (op_count (cut_by C x))
  unfolding successor_total store_of
  successors_end =
      sum_same (λ (o : Op). length o.successors) (op_of (cut_by C x)) (op_count (cut_by C x)) (slice_lengths C op_successor_first op_successor_end)
      (λ n l. ap (λ (o : Op). length o.successors) (op_same C x n) ∙ successors_length C shaped h n (omega arith))
      ∙ sum_tiled C op_successor_first op_successor_end (op_count (cut_by C x)) (successor_count C) (λ n l. (h.op n (omega arith)).successors)

-- ---- the slices that stay

pub end_same : (C D : Cols) (k n : ℕ) → D k ≡ C k → end_before D k n ≡ end_before C k n
unfolding end_before at
end_same C D k zero e = refl
end_same C D k (suc n) e = ap (λ (l : List ℕ). get_or l n 0) e

module _ (C : Cols) (first end total : ℕ) where
  tiles_rise : (N : ℕ) → ((i : ℕ) → i < N → Tiled C first end i total) → (n : ℕ) → n < N → at C end n ≤ end_before C end N
  unfolding end_before
  tiles_rise zero tiles n l = absurd (not-suc-le-zero l)
  tiles_rise (suc N) tiles n l = go (ℕ_discrete n N) (tiles_rise N (λ i m. tiles i (omega arith)) n)
    where
      go : Dec (n ≡ N) → (n < N → at C end n ≤ end_before C end N) → at C end n ≤ at C end N
      go (yes e) rest = omega (arith, ap (at C end) e)
      go (no ne) rest = let t = tiles N (omega arith) in omega (arith, rest (omega arith), t.follows, t.range.rises)

  -- they end where the last one ends
  pub tiled_back : (D : Cols) (N total' : ℕ) → D first ≡ C first → D end ≡ C end → total' ≡ end_before C end N → ((i : ℕ) → i < N → Tiled C first end i total)
      → (n : ℕ) → n < N → Tiled D first end n total'
  unfolding at
  tiled_back D N total' ef ee q tiles n l =
      let t = tiles n l in
      let f : at D first n ≡ at C first n = ap (λ (xs : List ℕ). get_or xs n 0) ef in
      let e : at D end n ≡ at C end n = ap (λ (xs : List ℕ). get_or xs n 0) ee in
      record {
        follows = f ∙ t.follows ∙ sym (end_same C D end n ee);
        range = record { rises = omega (arith, f, e, t.range.rises); fits = omega (arith, e, q, tiles_rise N tiles n l) };
      }
