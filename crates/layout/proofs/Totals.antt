-- The counts of operands, successors and attributes are the store's totals: the slices of a shared list stand one behind the other, so their lengths add up to where the last one ends. Assumes nothing.
use Prim.Native.Nat.{ℕ, zero, suc, ◌+◌, ◌-◌, ◌<◌}
use native.Mathlib.Omega.{arith}
use mathlib.Core.List.{map}
use mathlib.Core.Path.{◌≡◌, refl, ap, ap₂, ◌∙◌}
use lib.ListN.{length}
use Rattle.rules.specs.Lists.{sum}
use Rattle.rules.specs.Store.{Op, Block, operand_total, successor_total, attribute_total}
use Rattle.layout.specs.Columns.{Cols, at, op_operand_first, op_operand_end, op_successor_first, op_successor_end, op_attributes, block_attributes, operand_words, successor_words}
use Rattle.layout.specs.Reading.{tabulate_from, tabulate, op_count, block_count, operand_count, successor_count, attribute_count, attributes_from, op_of, block_of, store_of}
use Rattle.layout.specs.Soundness.{end_before, attribute_sum}
use Rattle.layout.proofs.Laid.{Laid, Shaped, Tiled}
use Rattle.layout.proofs.Scans.{slice_length}
use Rattle.layout.proofs.Sums.{sum_suc}
use Rattle.layout.proofs.Tabulate.{length_tabulate, tabulate_cong, map_from}

-- ---- sums over a tabulated list

module _ {A : Type 0} (g : A → ℕ) (f : ℕ → A) where
  pub sum_same : (n : ℕ) (w : ℕ → ℕ) → ((k : ℕ) → k < n → g (f k) ≡ w k) → sum (map g (tabulate n f)) ≡ sum (tabulate n w)
  unfolding tabulate
  sum_same n w same = ap sum (map_from g f 0 n ∙ tabulate_cong n (λ (k : ℕ). g (f k)) w same)

-- the lengths of the slices
abbrev pub slice_lengths : Cols → ℕ → ℕ → ℕ → ℕ
slice_lengths C first end k = at C end k - at C first k

pub sum_tiled : (C : Cols) (first end n total : ℕ) → ((k : ℕ) → k < n → Tiled C first end k total) → sum (tabulate n (slice_lengths C first end)) ≡ end_before C end n
unfolding end_before sum tabulate tabulate_from
sum_tiled C first end zero total tiles = refl
sum_tiled C first end (suc n) total tiles =
    let t = tiles n (omega arith) in
    sum_suc n (slice_lengths C first end) ∙ omega (arith, sum_tiled C first end n total (λ k h. tiles k (omega arith)))

-- ---- the store's totals

pub op_keys : (C : Cols) (n : ℕ) → length (op_of C n).attributes ≡ at C op_attributes n
unfolding op_of attributes_from
op_keys C n = length_tabulate (at C op_attributes n) _

pub block_keys_lem : (C : Cols) (m : ℕ) → length (block_of C m).attributes ≡ at C block_attributes m
unfolding block_of attributes_from
block_keys_lem C m = length_tabulate (at C block_attributes m) _

pub attribute_total_lem : (C : Cols) → Laid C → attribute_total (store_of C) ≡ attribute_count C
unfolding attribute_total store_of attribute_sum
attribute_total_lem C h =
    ap₂ ◌+◌ (sum_same (λ (o : Op). length o.attributes) (op_of C) (op_count C) (at C op_attributes) (λ k l. op_keys C k))
    (sum_same (λ (b : Block). length b.attributes) (block_of C) (block_count C) (at C block_attributes) (λ k l. block_keys_lem C k))
    ∙ h.attributes

module _ (C : Cols) (shaped : Shaped C) (h : Laid C) where
  pub operands_length : (n : ℕ) → n < op_count C → length (op_of C n).operands ≡ at C op_operand_end n - at C op_operand_first n
  unfolding op_of
  operands_length n l =
      let c = h.counts.operands in
      let t = (h.op n l).operands.range.fits in
      slice_length (C operand_words) _ _ (omega (arith, shaped operand_words))

  pub successors_length : (n : ℕ) → n < op_count C → length (op_of C n).successors ≡ at C op_successor_end n - at C op_successor_first n
  unfolding op_of
  successors_length n l =
      let c = h.counts.successors in
      let t = (h.op n l).successors.range.fits in
      slice_length (C successor_words) _ _ (omega (arith, shaped successor_words))

  pub operand_total_lem : operand_total (store_of C) ≡ operand_count C
  unfolding operand_total store_of
  operand_total_lem =
      sum_same (λ (o : Op). length o.operands) (op_of C) (op_count C) (slice_lengths C op_operand_first op_operand_end) operands_length
      ∙ sum_tiled C op_operand_first op_operand_end (op_count C) (operand_count C) (λ k l. (h.op k l).operands) ∙ h.operand_end

  pub successor_total_lem : successor_total (store_of C) ≡ successor_count C
  unfolding successor_total store_of
  successor_total_lem =
      sum_same (λ (o : Op). length o.successors) (op_of C) (op_count C) (slice_lengths C op_successor_first op_successor_end) successors_length
      ∙ sum_tiled C op_successor_first op_successor_end (op_count C) (successor_count C) (λ k l. (h.op k l).successors) ∙ h.successor_end
