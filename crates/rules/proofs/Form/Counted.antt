-- A fragment of a sound store holds no more operations and blocks than the store may, and defines no more values: each is a number of
-- the store, and comes once. Assumes nothing.
use Prim.Native.Nat.{ℕ, ◌+◌, ◌≤◌, ◌<◌}
use native.Mathlib.Omega.{arith}
use mathlib.Core.Bool.{true}
use mathlib.Core.List.Memᴰ
use mathlib.Core.List.{List, [], ◌∷◌, Memᴰ}
use mathlib.Core.Path.{◌≡◌, refl, sym, ap, subst, ◌∙◌}
use borrow.Author.Tests.{ltb-true}
use lib.ListN.{length}
use Rattle.std.specs.List.{flat_map}
use Rattle.rules.specs.Store.{Store, owner_exists, op_exists, max_ops, max_blocks, max_values, sound}
use Rattle.rules.specs.declared.types.Owner.{Owner}
use Rattle.rules.specs.declared.types.Owner.TheVariants.{Op as of_op, Block as of_block}
use Rattle.rules.specs.Fragments.{exists, block_owner, defines_owners, defines_values, defines_blocks, op_owner, fragment_ops}
use Rattle.rules.specs.declared.types.Sort.{Sort}
use Rattle.rules.proofs.Soundness.Sound.{facts}
use Rattle.rules.proofs.Basics.Distinct.{Distinct, distinct_concat_map, mem_concat_map}
use Rattle.rules.proofs.Basics.Pigeons.{pigeons}
use Rattle.rules.proofs.Form.Once.{owners_once, owners_here, values_once_lem, values_here, blocks_once_lem, blocks_here}

op_owner_lem : (w : Owner) {n : ℕ} → Memᴰ n (op_owner w) → w ≡ of_op n
unfolding op_owner
op_owner_lem (of_op m) k = ap of_op (sym (Memᴰ.eq_of_singleton k))
op_owner_lem (of_block b) k = absurd (Memᴰ.not-nil k)

op_alone : (w : Owner) → Distinct (op_owner w)
unfolding op_owner
op_alone (of_op n) = (λ m. Memᴰ.not-nil m, tt)
op_alone (of_block b) = tt

-- each is an operation or a block
pub owners_split : (ws : List Owner) → length ws ≡ length (flat_map op_owner ws) + length (flat_map block_owner ws)
unfolding op_owner block_owner
owners_split [] = refl
owners_split (of_op n ∷ ws) = omega (arith, owners_split ws)
owners_split (of_block b ∷ ws) = omega (arith, owners_split ws)

pub ops_once : (ws : List Owner) → Distinct ws → Distinct (flat_map op_owner ws)
ops_once ws once = distinct_concat_map op_owner ws once (λ w m. op_alone w) (λ w x mw mx n k l. op_owner_lem w k ∙ sym (op_owner_lem x l))

module _ (s : Store) (sd : sound s ≡ true) where
  pub ops_here : (ws : List Owner) → ((w : Owner) → Memᴰ w ws → owner_exists s w ≡ true) → (n : ℕ) → Memᴰ n (flat_map op_owner ws) → n < length s.ops
  unfolding owner_exists op_exists
  ops_here ws here n m =
      let w = mem_concat_map op_owner ws m in
      ltb-true _ _ (subst (λ (x : Owner). owner_exists s x ≡ true) (op_owner_lem w.0 w.2) (here w.0 w.1))

  pub ops_most : (ws : List Owner) → Distinct ws → ((w : Owner) → Memᴰ w ws → owner_exists s w ≡ true) → length (flat_map op_owner ws) ≤ max_ops
  ops_most ws once here =
      let l : length (flat_map op_owner ws) ≤ length s.ops = pigeons (length s.ops) (flat_map op_owner ws) (ops_once ws once) (ops_here ws here) in
      let t : length s.ops ≤ max_ops = (facts s sd).totals.ops in
      omega arith

  pub size_most : (f : Sort) (n : ℕ) → exists s f n ≡ true → length (fragment_ops s f n) ≤ max_ops
  unfolding fragment_ops
  size_most f n e = let so = facts s sd in ops_most (defines_owners s f n) (owners_once s so f n e) (owners_here s so f n e)

  pub values_most : (f : Sort) (n : ℕ) → exists s f n ≡ true → length (defines_values s f n) ≤ max_values
  values_most f n e =
      let so = facts s sd in
      let l : length (defines_values s f n) ≤ length s.values = pigeons (length s.values) (defines_values s f n) (values_once_lem s so f n e) (values_here s so f n) in
      let t : length s.values ≤ max_values = so.totals.values in
      omega arith

  pub blocks_most : (f : Sort) (n : ℕ) → exists s f n ≡ true → length (defines_blocks s f n) ≤ max_blocks
  blocks_most f n e =
      let so = facts s sd in
      let l : length (defines_blocks s f n) ≤ length s.blocks = pigeons (length s.blocks) (defines_blocks s f n) (blocks_once_lem s so f n e) (blocks_here s so f n e) in
      let t : length s.blocks ≤ max_blocks = so.totals.blocks in
      omega arith

  pub owners_most : (f : Sort) (n : ℕ) → exists s f n ≡ true → length (defines_owners s f n) ≤ max_ops + max_blocks
  unfolding defines_blocks fragment_ops
  owners_most f n e =
      let o : length (flat_map op_owner (defines_owners s f n)) ≤ max_ops = size_most f n e in
      let b : length (flat_map block_owner (defines_owners s f n)) ≤ max_blocks = blocks_most f n e in
      omega (arith, owners_split (defines_owners s f n))
