-- A change of one operation or block that keeps its parent or region keeps a store sound: nothing else is named by what changes, and the
-- changed one is tested. Assumes nothing.
use Prim.Native.Nat.{ℕ, ◌+◌, ◌<◌, ◌≤◌}
use native.Mathlib.Omega.{arith}
use mathlib.Core.Bool.{true}
use mathlib.Core.List.{List}
use mathlib.Core.Path.{◌≡◌, refl}
use lib.ListN.{length}
use Rattle.rules.specs.Lists.{update_at}
use Rattle.rules.specs.Store.{Store, Op, Block, no_op, no_block, op_at, block_at, parent_of, regions_of, results_of, arguments_of, values_of, attributes_hold, operand_total, successor_total, attribute_total, max_operands, max_successors, max_attributes}
use Rattle.rules.proofs.Soundness.Sound.{Sound, OpSound, BlockSound}
use Rattle.rules.proofs.Basics.Appended.{length_update, get_d_update, sum_update}
use Rattle.rules.proofs.Soundness.Grown.{Grown, OpFits, fits, fits_kept, op_kept, block_kept, regions_kept, values_kept}

-- the store with other operations and blocks
abbrev pub with_lists : Store → List Op → List Block → Store
with_lists s ops blocks = record { ops = ops; blocks = blocks; regions = s.regions; values = s.values }

-- as many operations and blocks as before, standing where they stood, each of them fit
record Changed (s t : Store) : Type 0 where
  ops : length t.ops ≡ length s.ops
  blocks : length t.blocks ≡ length s.blocks
  parent : (n : ℕ) → parent_of t n ≡ parent_of s n
  region : (m : ℕ) → (block_at t m).region ≡ (block_at s m).region
  op_fits : (n : ℕ) → n < length s.ops → OpFits s (op_at t n)
  block_fits : (m : ℕ) → m < length s.blocks → attributes_hold (block_at t m).attributes ≡ true
  operands : operand_total t ≤ max_operands
  successors : successor_total t ≤ max_successors
  attributes : attribute_total t ≤ max_attributes

module _ (s : Store) (ops : List Op) (blocks : List Block) (h : Sound s) (c : Changed s (with_lists s ops blocks)) where
  abbrev t : Store
  t = with_lists s ops blocks

  changed_grown : Grown s t
  changed_grown =
      record {
        ops = omega (arith, c.ops);
        blocks = omega (arith, c.blocks);
        regions = omega arith;
        values = omega arith;
        parent = λ n l. c.parent n;
        region = λ m l. c.region m;
        around = λ r l. refl;
      }

  changed_op : (n : ℕ) → n < length s.ops → OpSound t n
  unfolding results_of regions_of values_of
  changed_op n l = op_kept s t changed_grown h n l (fits_kept s t changed_grown _ (c.op_fits n l)) (h.op n l).regions_fit (h.op n l).results_fit

  changed_block : (m : ℕ) → m < length s.blocks → BlockSound t m
  unfolding arguments_of values_of
  changed_block m l = block_kept s t changed_grown h m l (h.block m l).arguments_fit (c.block_fits m l)

  changed_sound : Sound t
  changed_sound =
      record {
        op = λ n l. changed_op n (omega (arith, c.ops));
        block = λ m l. changed_block m (omega (arith, c.blocks));
        regions_in = regions_kept s t changed_grown h;
        values_in = values_kept s t changed_grown h;
        totals =
            record {
              ops = omega (arith, c.ops, h.totals.ops);
              blocks = omega (arith, c.blocks, h.totals.blocks);
              regions = h.totals.regions;
              values = h.totals.values;
              operands = c.operands;
              successors = c.successors;
              attributes = c.attributes;
            };
      }

-- one operation changes in its operands and attributes
module _ (s : Store) (g : Op → Op) (k : ℕ) (h : Sound s) (l : k < length s.ops) where
  pub op_set : ((o : Op) → (g o).parent ≡ o.parent) → OpFits s (g (op_at s k)) → length (g (op_at s k)).operands ≡ length (op_at s k).operands
      → length (g (op_at s k)).successors ≡ length (op_at s k).successors
      → attribute_total s + length (g (op_at s k)).attributes ≤ max_attributes + length (op_at s k).attributes
      → Sound (with_lists s (update_at g k s.ops) s.blocks)
  unfolding parent_of op_at block_at operand_total successor_total attribute_total
  op_set keeps fit operands successors attributes =
      changed_sound s (update_at g k s.ops) s.blocks h (
      record {
        ops = length_update g k s.ops;
        blocks = refl;
        parent = λ n. get_d_update (λ (o : Op). o.parent ≡ parent_of s n) g k n s.ops no_op refl (λ e. rw e (keeps _));
        region = λ m. refl;
        op_fits = λ n u. get_d_update (OpFits s) g k n s.ops no_op (fits s h n u) (λ e. fit);
        block_fits = λ m u. (h.block m u).attributes_fit;
        operands = omega (arith, sum_update (λ (o : Op). length o.operands) g k s.ops no_op l, h.totals.operands);
        successors = omega (arith, sum_update (λ (o : Op). length o.successors) g k s.ops no_op l, h.totals.successors);
        attributes = omega (arith, sum_update (λ (o : Op). length o.attributes) g k s.ops no_op l);
      }
      )

-- one block changes in its attributes
module _ (s : Store) (g : Block → Block) (k : ℕ) (h : Sound s) (l : k < length s.blocks) where
  pub block_set : ((b : Block) → (g b).region ≡ b.region) → attributes_hold (g (block_at s k)).attributes ≡ true
      → attribute_total s + length (g (block_at s k)).attributes ≤ max_attributes + length (block_at s k).attributes
      → Sound (with_lists s s.ops (update_at g k s.blocks))
  unfolding parent_of op_at block_at operand_total successor_total attribute_total
  block_set keeps fit attributes =
      changed_sound s s.ops (update_at g k s.blocks) h (
      record {
        ops = refl;
        blocks = length_update g k s.blocks;
        parent = λ n. refl;
        region = λ m. get_d_update (λ (b : Block). b.region ≡ (block_at s m).region) g k m s.blocks no_block refl (λ e. rw e (keeps _));
        op_fits = λ n u. fits s h n u;
        block_fits = λ m u. get_d_update (λ (b : Block). attributes_hold b.attributes ≡ true) g k m s.blocks no_block (h.block m u).attributes_fit (λ e. fit);
        operands = h.totals.operands;
        successors = h.totals.successors;
        attributes = omega (arith, sum_update (λ (b : Block). length b.attributes) g k s.blocks no_block l);
      }
      )
