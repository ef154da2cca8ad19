-- The store with a copy in it, table by table: what was there is as before, and behind it stand the copies, each at its new number. Assumes nothing.
use Prim.Native.Nat.{ℕ, ◌+◌, ◌<◌, ◌≤◌}
use mathlib.Core.List.{List, Memᴰ}
use Rattle.std.specs.Prelude.{Option}
use mathlib.Core.Path.{◌≡◌}
use lib.ListN.{length, get_or}
use Rattle.rules.specs.Store.{Store, no_op, no_block, no_value, op_at, block_at, value_at}
use Rattle.rules.specs.Fragments.{defines_blocks, defines_values, fragment_ops}
use Rattle.rules.specs.declared.types.Sort.TheVariants.{Op as op}
use Rattle.rules.specs.Copying.{copied_regions, op_copy, block_copy, region_copy, value_copy, copied_op, copied_block, copied_value, copied}
use Rattle.rules.proofs.Copying.Renumbered.{number_new, number_once, old_entry, new_entry, table_length_lem}

module _ (s : Store) (n : ℕ) (place : Option ℕ) where
  abbrev with : Store
  with = copied s n place

  abbrev the_ops : List ℕ
  the_ops = fragment_ops s op n

  abbrev the_blocks : List ℕ
  the_blocks = defines_blocks s op n

  abbrev the_values : List ℕ
  the_values = defines_values s op n

  abbrev the_regions : List ℕ
  the_regions = copied_regions s n

  -- ---- entries

  pub old_op : (m : ℕ) → m < length s.ops → op_at with m ≡ op_at s m
  unfolding op_at copied
  old_op m l = old_entry s.ops (copied_op s n place) the_ops no_op m l

  pub new_op : {m : ℕ} → Memᴰ m the_ops → op_at with (op_copy s n m) ≡ copied_op s n place m
  unfolding op_at copied op_copy
  new_op k = new_entry s.ops (copied_op s n place) the_ops no_op k

  pub old_block : (b : ℕ) → b < length s.blocks → block_at with b ≡ block_at s b
  unfolding block_at copied
  old_block b l = old_entry s.blocks (copied_block s n) the_blocks no_block b l

  pub new_block_lem : {b : ℕ} → Memᴰ b the_blocks → block_at with (block_copy s n b) ≡ copied_block s n b
  unfolding block_at copied block_copy
  new_block_lem k = new_entry s.blocks (copied_block s n) the_blocks no_block k

  pub old_value : (v : ℕ) → v < length s.values → value_at with v ≡ value_at s v
  unfolding value_at copied
  old_value v l = old_entry s.values (copied_value s n) the_values no_value v l

  pub new_value : {v : ℕ} → Memᴰ v the_values → value_at with (value_copy s n v) ≡ copied_value s n v
  unfolding value_at copied value_copy
  new_value k = new_entry s.values (copied_value s n) the_values no_value k

  pub old_region : (r : ℕ) → r < length s.regions → get_or with.regions r 0 ≡ get_or s.regions r 0
  unfolding copied
  old_region r l = old_entry s.regions (λ (q : ℕ). op_copy s n (get_or s.regions q 0)) the_regions 0 r l

  pub new_region : {r : ℕ} → Memᴰ r the_regions → get_or with.regions (region_copy s n r) 0 ≡ op_copy s n (get_or s.regions r 0)
  unfolding copied region_copy
  new_region k = new_entry s.regions (λ (q : ℕ). op_copy s n (get_or s.regions q 0)) the_regions 0 k

  pub ops_length : length with.ops ≡ length s.ops + length the_ops
  unfolding copied
  ops_length = table_length_lem s.ops (copied_op s n place) the_ops

  pub blocks_length : length with.blocks ≡ length s.blocks + length the_blocks
  unfolding copied
  blocks_length = table_length_lem s.blocks (copied_block s n) the_blocks

  pub regions_length : length with.regions ≡ length s.regions + length the_regions
  unfolding copied
  regions_length = table_length_lem s.regions (λ (q : ℕ). op_copy s n (get_or s.regions q 0)) the_regions

  pub values_length : length with.values ≡ length s.values + length the_values
  unfolding copied
  values_length = table_length_lem s.values (copied_value s n) the_values

  -- ---- new numbers

  pub op_new : {m : ℕ} → Memᴰ m the_ops → length s.ops ≤ op_copy s n m
  unfolding op_copy
  op_new k = number_new the_ops (length s.ops) k

  pub block_new : {b : ℕ} → Memᴰ b the_blocks → length s.blocks ≤ block_copy s n b
  unfolding block_copy
  block_new k = number_new the_blocks (length s.blocks) k

  pub region_new : {r : ℕ} → Memᴰ r the_regions → length s.regions ≤ region_copy s n r
  unfolding region_copy
  region_new k = number_new the_regions (length s.regions) k

  pub op_once : (a b : ℕ) → a < length s.ops → b < length s.ops → op_copy s n a ≡ op_copy s n b → a ≡ b
  unfolding op_copy
  op_once = number_once the_ops (length s.ops)

  pub block_once : (a b : ℕ) → a < length s.blocks → b < length s.blocks → block_copy s n a ≡ block_copy s n b → a ≡ b
  unfolding block_copy
  block_once = number_once the_blocks (length s.blocks)

  pub region_once : (a b : ℕ) → a < length s.regions → b < length s.regions → region_copy s n a ≡ region_copy s n b → a ≡ b
  unfolding region_copy
  region_once = number_once the_regions (length s.regions)
