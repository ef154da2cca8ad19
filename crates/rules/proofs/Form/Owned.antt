-- The operations and blocks that a fragment defines are its owners, by their numbers, and the owner of a value that it defines is one. Assumes
-- nothing.
use Prim.Native.Nat.{ℕ, ◌<◌}
use mathlib.Core.List.{Memᴰ}
use mathlib.Core.Path.{refl, sym, subst}
use lib.ListN.{length}
use Rattle.rules.specs.Store.{Store, value_at, values_of}
use Rattle.rules.specs.declared.types.Owner.{Owner}
use Rattle.rules.specs.declared.types.Owner.TheVariants.{Op as of_op, Block as of_block}
use Rattle.rules.specs.Fragments.{op_owner, block_owner, defines_owners, defines_blocks, defines_values, fragment_ops}
use Rattle.rules.specs.declared.types.Sort.{Sort}
use Rattle.rules.proofs.Basics.Distinct.{mem_concat_map}
use Rattle.rules.proofs.Soundness.Children.{values_in_lem}
use Rattle.rules.proofs.Form.Once.{op_owner_lem, block_owner_lem}
use Rattle.rules.proofs.Copying.Renumbered.{in_concat_map}

module _ (s : Store) (f : Sort) (n : ℕ) where
  pub op_owned : {m : ℕ} → Memᴰ m (fragment_ops s f n) → Memᴰ (of_op m) (defines_owners s f n)
  unfolding fragment_ops
  op_owned {m} k = let w = mem_concat_map op_owner (defines_owners s f n) k in subst (λ (x : Owner). Memᴰ x (defines_owners s f n)) (op_owner_lem w.0 m w.2) w.1

  pub owned_op : {m : ℕ} → Memᴰ (of_op m) (defines_owners s f n) → Memᴰ m (fragment_ops s f n)
  unfolding fragment_ops op_owner
  owned_op k = in_concat_map op_owner (defines_owners s f n) k (Memᴰ.head refl)

  pub block_owned : {b : ℕ} → Memᴰ b (defines_blocks s f n) → Memᴰ (of_block b) (defines_owners s f n)
  unfolding defines_blocks
  block_owned {b} k =
      let w = mem_concat_map block_owner (defines_owners s f n) k in subst (λ (x : Owner). Memᴰ x (defines_owners s f n)) (block_owner_lem w.0 b w.2) w.1

  pub owned_block : {b : ℕ} → Memᴰ (of_block b) (defines_owners s f n) → Memᴰ b (defines_blocks s f n)
  unfolding defines_blocks block_owner
  owned_block k = in_concat_map block_owner (defines_owners s f n) k (Memᴰ.head refl)

  pub value_owner_lem : {v : ℕ} → Memᴰ v (defines_values s f n) → (v < length s.values) × Memᴰ (value_at s v).owner (defines_owners s f n)
  unfolding defines_values
  value_owner_lem {v} k =
      let w = mem_concat_map (values_of s) (defines_owners s f n) k in
      let i = values_in_lem s w.0 w.2 in
      (i.0, subst (λ (x : Owner). Memᴰ x (defines_owners s f n)) (sym i.1) w.1)
