-- How much there is to copy of everything: what the store with a copy has is what the store has and once more what the operation has; and that is no
-- more than the store has, since the walk comes to each thing once. Assumes nothing.
use Prim.Native.Nat.{ℕ, ◌+◌, ◌<◌, ◌≤◌}
use native.Mathlib.Omega.{arith}
use mathlib.Core.Bool.{true}
use mathlib.Core.List.{List, [], ◌∷◌, map, Memᴰ}
use Rattle.std.specs.Prelude.{Option}
use mathlib.Core.Path.{◌≡◌, refl, ap, ap₂, ◌∙◌}
use lib.ListN.{length, length-map}
use Rattle.rules.specs.Lists.{sum}
use Rattle.rules.specs.Store.{Store, Op, Block, no_op, no_block, op_at, block_at, regions_of, op_exists, operand_total, successor_total, attribute_total}
use Rattle.rules.specs.Fragments.{fragment_ops, defines_blocks, defines_values}
use Rattle.rules.specs.declared.types.Sort.TheVariants.{Op as op}
use Rattle.rules.specs.Copying.{copied_regions, copied_op, copied_block, copied}
use Rattle.rules.proofs.Basics.Appended.{sum_append}
use Rattle.rules.proofs.Basics.Pigeons.{pigeons}
use Rattle.rules.proofs.Basics.Distinct.{mem_concat_map}
use Rattle.rules.proofs.Soundness.Sound.{Sound}
use Rattle.rules.proofs.Soundness.Children.{regions_in_lem}
use Rattle.rules.proofs.Keys.Longest.{over, places_most}
use Rattle.rules.proofs.Copying.Inside.{ops_distinct, blocks_distinct, values_distinct, copied_distinct, op_below, block_below, value_owner_lem}

-- ---- what operations and blocks have, by their numbers

module _ (s : Store) where
  unfoldable pub operands_at : List ℕ → ℕ
  operands_at ns = sum (map (λ (m : ℕ). length (op_at s m).operands) ns)

  unfoldable pub successors_at : List ℕ → ℕ
  successors_at ns = sum (map (λ (m : ℕ). length (op_at s m).successors) ns)

  unfoldable pub op_keys_at : List ℕ → ℕ
  op_keys_at ns = sum (map (λ (m : ℕ). length (op_at s m).attributes) ns)

  unfoldable pub block_keys_at : List ℕ → ℕ
  block_keys_at bs = sum (map (λ (b : ℕ). length (block_at s b).attributes) bs)

-- a sum over the entries that f makes
sum_map : {A B : Type 0} (g : B → ℕ) (f : A → B) (h : A → ℕ) → ((x : A) → g (f x) ≡ h x) → (xs : List A) → sum (map g (map f xs)) ≡ sum (map h xs)
unfolding sum
sum_map g f h same [] = refl
sum_map g f h same (x ∷ xs) = ap₂ ◌+◌ (same x) (sum_map g f h same xs)

module _ (s : Store) (n : ℕ) (place : Option ℕ) where
  abbrev with : Store
  with = copied s n place

  ops_sum : (g : Op → ℕ) (h : ℕ → ℕ) → ((m : ℕ) → g (copied_op s n place m) ≡ h m)
      → sum (map g with.ops) ≡ sum (map g s.ops) + sum (map h (fragment_ops s op n))
  unfolding copied
  ops_sum g h same =
      sum_append g s.ops (map (copied_op s n place) (fragment_ops s op n))
      ∙ ap (λ (k : ℕ). sum (map g s.ops) + k) (sum_map g (copied_op s n place) h same (fragment_ops s op n))

  blocks_sum : (g : Block → ℕ) (h : ℕ → ℕ) → ((b : ℕ) → g (copied_block s n b) ≡ h b)
      → sum (map g with.blocks) ≡ sum (map g s.blocks) + sum (map h (defines_blocks s op n))
  unfolding copied
  blocks_sum g h same =
      sum_append g s.blocks (map (copied_block s n) (defines_blocks s op n))
      ∙ ap (λ (k : ℕ). sum (map g s.blocks) + k) (sum_map g (copied_block s n) h same (defines_blocks s op n))

  pub operands_with : operand_total with ≡ operand_total s + operands_at s (fragment_ops s op n)
  unfolding operand_total operands_at copied_op
  operands_with = ops_sum (λ (o : Op). length o.operands) (λ (m : ℕ). length (op_at s m).operands) (λ m. length-map _ _)

  pub successors_with : successor_total with ≡ successor_total s + successors_at s (fragment_ops s op n)
  unfolding successor_total successors_at copied_op
  successors_with = ops_sum (λ (o : Op). length o.successors) (λ (m : ℕ). length (op_at s m).successors) (λ m. length-map _ _)

  pub attributes_with : attribute_total with ≡ attribute_total s + (op_keys_at s (fragment_ops s op n) + block_keys_at s (defines_blocks s op n))
  unfolding attribute_total op_keys_at block_keys_at copied_op copied_block
  attributes_with =
      let o = ops_sum (λ (o : Op). length o.attributes) (λ (m : ℕ). length (op_at s m).attributes) (λ m. refl) in
      let b = blocks_sum (λ (o : Block). length o.attributes) (λ (m : ℕ). length (block_at s m).attributes) (λ m. refl) in
      omega (arith, o, b)

-- ---- no more than the store has

module _ (s : Store) (sd : Sound s) (n : ℕ) (ex : op_exists s n ≡ true) where
  pub ops_few : length (fragment_ops s op n) ≤ length s.ops
  ops_few = pigeons (length s.ops) (fragment_ops s op n) (ops_distinct s sd n ex) (λ m k. op_below s sd n ex k)

  pub blocks_few : length (defines_blocks s op n) ≤ length s.blocks
  blocks_few = pigeons (length s.blocks) (defines_blocks s op n) (blocks_distinct s sd n ex) (λ b k. block_below s sd n ex k)

  region_below : {r : ℕ} → Memᴰ r (copied_regions s n) → r < length s.regions
  unfolding copied_regions
  region_below k = let w = mem_concat_map (regions_of s) (fragment_ops s op n) k in (regions_in_lem s w.0 w.2).0

  pub regions_few : length (copied_regions s n) ≤ length s.regions
  regions_few = pigeons (length s.regions) (copied_regions s n) (copied_distinct s sd n ex) (λ r k. region_below k)

  pub values_few : length (defines_values s op n) ≤ length s.values
  values_few = pigeons (length s.values) (defines_values s op n) (values_distinct s sd n ex) (λ v k. (value_owner_lem s sd n ex k).0)

  over_ops : (g : Op → ℕ) → over (λ (m : ℕ). g (op_at s m)) (fragment_ops s op n) ≤ over g s.ops
  unfolding op_at
  over_ops g = places_most g s.ops no_op (fragment_ops s op n) (ops_distinct s sd n ex) (λ m k. op_below s sd n ex k)

  over_blocks : (g : Block → ℕ) → over (λ (b : ℕ). g (block_at s b)) (defines_blocks s op n) ≤ over g s.blocks
  unfolding block_at
  over_blocks g = places_most g s.blocks no_block (defines_blocks s op n) (blocks_distinct s sd n ex) (λ b k. block_below s sd n ex k)

  pub operands_few : operands_at s (fragment_ops s op n) ≤ operand_total s
  unfolding operand_total operands_at over
  operands_few = over_ops (λ (o : Op). length o.operands)

  pub successors_few : successors_at s (fragment_ops s op n) ≤ successor_total s
  unfolding successor_total successors_at over
  successors_few = over_ops (λ (o : Op). length o.successors)

  pub attributes_few : op_keys_at s (fragment_ops s op n) + block_keys_at s (defines_blocks s op n) ≤ attribute_total s
  unfolding attribute_total op_keys_at block_keys_at over
  attributes_few = omega (arith, over_ops (λ (o : Op). length o.attributes), over_blocks (λ (b : Block). length b.attributes))
