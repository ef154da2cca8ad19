-- `attribute_sum` meets its contract: the rows that are laid out have at most 8 attributes each. Assumes nothing.
use Prim.Native.Nat.{ℕ, ◌+◌, ◌<◌, ◌≤◌}
use native.Mathlib.Omega.{arith}
use mathlib.Core.Bool.{true}
use mathlib.Core.Path.{◌≡◌, ap, ap₂, ◌∙◌}
use borrow.Author.Tests.{le-leb}
use Rattle.rules.specs.Lists.{all_below, sum}
use Rattle.rules.proofs.Basics.Tests.{all_below_at, all_below_of}
use Rattle.layout.specs.Columns.{Cols, columns, at, op_attributes, block_attributes}
use Rattle.layout.specs.Reading.{tabulate, op_count, block_count}
use Rattle.layout.specs.Soundness.{op_laid, block_laid, attribute_sum}
use Rattle.layout.proofs.Laid.{op_facts, block_facts, counts_facts}
use Rattle.layout.proofs.Sums.{sum_bound}
use Rattle.layout.proofs.checks.attribute_sum.Goals as goal

op_keys : (C : Cols) → all_below (op_count C) (op_laid C) ≡ true → (i : ℕ) → i < op_count C → at C op_attributes i ≤ 8
op_keys C h i l = (op_facts C i (all_below_at (op_count C) (op_laid C) h i l)).keys

block_keys_lem : (C : Cols) → all_below (block_count C) (block_laid C) ≡ true → (i : ℕ) → i < block_count C → at C block_attributes i ≤ 8
block_keys_lem C h i l = (block_facts C i (all_below_at (block_count C) (block_laid C) h i l)).keys

pub sum_of-requires : goal.sum_of-requires
unfolding op_count
sum_of-requires c =
    let C = columns c.args.store.now in
    let k = counts_facts C c.requires.counts_bounded.counted in
    record {
      column_lt_column_count = omega arith;
      n_bound = omega (arith, k.ops);
      i_value = all_below_of c.number-ops.result _ (λ i l. le-leb (at C op_attributes i) 8 (op_keys C c.requires.store_value i (omega arith)));
    }

pub sum_of-requires-2 : goal.sum_of-requires-2
unfolding block_count
sum_of-requires-2 c =
    let C = columns c.args.store.now in
    let k = counts_facts C c.requires.counts_bounded.counted in
    record {
      column_lt_column_count = omega arith;
      n_bound = omega (arith, k.blocks);
      i_value = all_below_of c.number-blocks.result _ (λ i l. le-leb (at C block_attributes i) 8 (block_keys_lem C c.requires.blocks_laid i (omega arith)));
    }

pub overflow_add-result : goal.overflow_add-result
unfolding op_count block_count
overflow_add-result c =
    let C = columns c.args.store.now in
    let k = counts_facts C c.requires.counts_bounded.counted in
    let ops = c.sum_of.ensures ∙ ap (λ (n : ℕ). sum (tabulate n (at C op_attributes))) c.number-ops.ensures in
    let blocks = c.sum_of-2.ensures ∙ ap (λ (n : ℕ). sum (tabulate n (at C block_attributes))) c.number-blocks.ensures in
    omega (arith, ops, blocks, k.ops, k.blocks, sum_bound (at C 0 0) (at C op_attributes) (op_keys C c.requires.store_value), sum_bound (at C 0 1) (at C block_attributes) (block_keys_lem C c.requires.blocks_laid))

pub returns : goal.returns
unfolding attribute_sum op_count block_count
returns c =
    let C = columns c.args.store.now in
    let ops = c.sum_of.ensures ∙ ap (λ (n : ℕ). sum (tabulate n (at C op_attributes))) c.number-ops.ensures in
    let blocks = c.sum_of-2.ensures ∙ ap (λ (n : ℕ). sum (tabulate n (at C block_attributes))) c.number-blocks.ensures in
    ap₂ ◌+◌ ops blocks
