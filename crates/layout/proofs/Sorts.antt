-- The two sorts of children, as the rows that are laid out tell them: what is asked of their columns, and what their links are. Assumes nothing.
use Prim.Native.Nat.{ℕ, zero, suc, ◌-◌, ◌<◌, ◌≤◌}
use native.Mathlib.Omega.{arith}
use mathlib.Core.Bool.{Bool, true, cond, ◌&&◌}
use mathlib.Core.Path.{◌≡◌, refl, ap, ap₂, ◌∙◌}
use borrow.Author.Tests.{le-ltb}
use Rattle.rules.specs.Lists.{all_below}
use Rattle.rules.proofs.Basics.Tests.{all_below_at}
use Rattle.layout.specs.Columns.{Cols, at, op_parent, op_next, block_op_end, block_region, block_next, region_block_end}
use Rattle.layout.specs.Reading.{op_count, block_count, parent_from}
use Rattle.layout.specs.Soundness.{op_laid, block_laid, parent_linked, op_linked, block_linked, link_holds, next_child}
use Rattle.layout.specs.Families.{Linkable, child_linked, child_linked_by, ops_in_blocks, blocks_in_regions}
use Rattle.layout.proofs.Laid.{Counts, op_facts, block_facts}
use Rattle.layout.proofs.Linking.{parent_low}

-- two tests that agree at each number
pub all_below_same : (n : ℕ) (p q : ℕ → Bool) → ((i : ℕ) → p i ≡ q i) → all_below n p ≡ all_below n q
unfolding all_below
all_below_same zero p q e = refl
all_below_same (suc n) p q e = ap₂ ◌&&◌ (e n) (all_below_same n p q e)

module _ (C : Cols) (k : Counts C) where
  pub ops_linkable : all_below (op_count C) (op_laid C) ≡ true → Linkable C ops_in_blocks
  unfolding op_count
  ops_linkable laid =
      let low : (i : ℕ) → i < op_count C → at C op_parent i ≤ 256 = λ i l. omega (arith, k.blocks, parent_low C i _ (op_facts C i (all_below_at _ _ laid i l)).place) in
      record {
        table = omega arith;
        owners = omega arith;
        links = omega arith;
        ends = omega arith;
        few = k.ops;
        owned = k.ops;
        linked = k.ops;
        words = λ i l. omega (arith, low i l);
        ended = λ i l. omega (arith, low i l);
      }

  pub blocks_linkable : all_below (block_count C) (block_laid C) ≡ true → Linkable C blocks_in_regions
  unfolding block_count
  blocks_linkable laid =
      let low : (i : ℕ) → i < block_count C → at C block_region i < 256 = λ i l. omega (arith, k.regions, (block_facts C i (all_below_at _ _ laid i l)).region_in) in
      record {
        table = omega arith;
        owners = omega arith;
        links = omega arith;
        ends = omega arith;
        few = omega (arith, k.blocks);
        owned = k.blocks;
        linked = k.blocks;
        words = λ i l. omega (arith, low i l);
        ended = λ i l. omega (arith, low i l);
      }

module _ (C : Cols) where
  op_by : (n w next : ℕ) → child_linked_by C ops_in_blocks n w next ≡ parent_linked C n (parent_from w) next
  unfolding child_linked_by parent_linked parent_from
  op_by n zero next = refl
  op_by n (suc b) next =
      let low : 1 ≤ suc b = omega arith in
      let less : suc b - 1 ≡ b = omega arith in
      ap (λ (t : Bool). cond t true (link_holds next (at C op_next n) (at C block_op_end (suc b - 1)) n)) (le-ltb (suc b) 1 low)
      ∙ ap (λ (v : ℕ). link_holds next (at C op_next n) (at C block_op_end v) n) less

  pub ops_linked_lem : all_below (op_count C) (child_linked C ops_in_blocks) ≡ all_below (op_count C) (op_linked C)
  unfolding child_linked op_linked op_count
  ops_linked_lem = all_below_same (op_count C) (child_linked C ops_in_blocks) (op_linked C) (λ n. op_by n (at C op_parent n) (next_child C op_parent (op_count C) n))

  block_by : (n w next : ℕ) → child_linked_by C blocks_in_regions n w next ≡ link_holds next (at C block_next n) (at C region_block_end w) n
  unfolding child_linked_by
  block_by n w next =
      let low : 0 ≤ w = omega arith in
      let same : w - 0 ≡ w = omega arith in
      ap (λ (t : Bool). cond t true (link_holds next (at C block_next n) (at C region_block_end (w - 0)) n)) (le-ltb w 0 low)
      ∙ ap (λ (v : ℕ). link_holds next (at C block_next n) (at C region_block_end v) n) same

  pub blocks_linked_lem : all_below (block_count C) (child_linked C blocks_in_regions) ≡ all_below (block_count C) (block_linked C)
  unfolding child_linked block_linked block_count
  blocks_linked_lem =
      all_below_same (block_count C) (child_linked C blocks_in_regions) (block_linked C) (λ n. block_by n (at C block_region n) (next_child C block_region (block_count C) n))
