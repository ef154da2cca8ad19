-- An owner's attributes changed: a key set and a key taken away are such changes; what else there is, is as it was. Assumes nothing.
use Prim.Native.Nat.{ℕ, ◌+◌}
use native.Mathlib.Omega.{arith}
use mathlib.Core.Bool.{true}
use mathlib.Core.List.{List}
use mathlib.Core.Path.{◌≡◌, refl, ap}
use borrow.Author.Tests.{ltb-true, lt-ltb}
use lib.Dec.{ltb}
use lib.ListN.{length}
use Rattle.rules.specs.Lists.{update_at}
use Rattle.rules.specs.Store.{Store, Op, Block, no_op, no_block, op_at, block_at, op_exists, block_exists, owner_exists, attribute_total}
use Rattle.rules.specs.declared.types.Attribute.{Attribute}
use Rattle.rules.specs.declared.types.Owner.{Owner}
use Rattle.rules.specs.declared.types.Owner.TheVariants.{Op as of_op, Block as of_block}
use Rattle.rules.specs.Building.{set_attribute, attributes_of, put_attribute, op_with_attribute, block_with_attribute, applied}
use Rattle.rules.proofs.Basics.Appended.{length_update, get_d_update, sum_update}
use Rattle.rules.proofs.Basics.Cut.{take_update, update_back}
use Rattle.rules.proofs.Soundness.KeptSet.{with_lists}
use Rattle.rules.proofs.Soundness.Room.{update_there}
use Rattle.layout.specs.Journal.{without_key, op_without_key, block_without_key, key_taken, Counts, cut_to}

-- ---- one operation or block changes

abbrev pub ops_by : (Op → Op) → ℕ → Store → Store
ops_by g n s = with_lists s (update_at g n s.ops) s.blocks

abbrev pub blocks_by : (Block → Block) → ℕ → Store → Store
blocks_by g b s = with_lists s s.ops (update_at g b s.blocks)

pub cut_ops : (g : Op → Op) (n : ℕ) (k : Counts) (s : Store) → cut_to k (ops_by g n s) ≡ ops_by g n (cut_to k s)
unfolding cut_to
cut_ops g n k s = ap (λ (l : List Op). with_lists (cut_to k s) l (cut_to k s).blocks) (take_update g n k.ops s.ops)

cut_blocks : (g : Block → Block) (b : ℕ) (k : Counts) (s : Store) → cut_to k (blocks_by g b s) ≡ blocks_by g b (cut_to k s)
unfolding cut_to
cut_blocks g b k s = ap (λ (l : List Block). with_lists (cut_to k s) (cut_to k s).ops l) (take_update g b k.blocks s.blocks)

pub ops_back : (f g : Op → Op) (n : ℕ) (s : Store) → (op_exists s n ≡ true → g (f (op_at s n)) ≡ op_at s n) → ops_by g n (ops_by f n s) ≡ s
unfolding op_at op_exists
ops_back f g n s e = ap (λ (l : List Op). with_lists s l s.blocks) (update_back f g n s.ops no_op (λ l. e (lt-ltb n _ l)))

blocks_back_lem : (f g : Block → Block) (b : ℕ) (s : Store) → (block_exists s b ≡ true → g (f (block_at s b)) ≡ block_at s b) → blocks_by g b (blocks_by f b s) ≡ s
unfolding block_at block_exists
blocks_back_lem f g b s e = ap (λ (l : List Block). with_lists s s.ops l) (update_back f g b s.blocks no_block (λ l. e (lt-ltb b _ l)))

-- ---- attributes

module _ (f : List Attribute → List Attribute) where
  abbrev pub op_by : Op → Op
  op_by o =
      record {
        kind = o.kind;
        parent = o.parent;
        location = o.location;
        operands = o.operands;
        successors = o.successors;
        attributes = f o.attributes;
      }

  abbrev pub block_by : Block → Block
  block_by b = record { region = b.region; location = b.location; attributes = f b.attributes }

  abbrev pub attributes_by : Owner → Store → Store
  attributes_by (of_op n) s = ops_by op_by n s
  attributes_by (of_block b) s = blocks_by block_by b s

  pub cut_attributes : (w : Owner) (k : Counts) (s : Store) → cut_to k (attributes_by w s) ≡ attributes_by w (cut_to k s)
  cut_attributes (of_op n) k s = cut_ops op_by n k s
  cut_attributes (of_block b) k s = cut_blocks block_by b k s

  pub owner_same : (w v : Owner) (s : Store) → owner_exists (attributes_by w s) v ≡ owner_exists s v
  unfolding owner_exists op_exists block_exists
  owner_same (of_op n) (of_op i) s = ap (ltb i) (length_update op_by n s.ops)
  owner_same (of_op n) (of_block i) s = refl
  owner_same (of_block b) (of_op i) s = refl
  owner_same (of_block b) (of_block i) s = ap (ltb i) (length_update block_by b s.blocks)

  pub attributes_there : (w : Owner) (s : Store) → owner_exists s w ≡ true → attributes_of (attributes_by w s) w ≡ f (attributes_of s w)
  unfolding owner_exists op_exists block_exists attributes_of op_at block_at
  attributes_there (of_op n) s h = ap (λ (o : Op). o.attributes) (update_there op_by n s.ops no_op (ltb-true n _ h))
  attributes_there (of_block b) s h = ap (λ (o : Block). o.attributes) (update_there block_by b s.blocks no_block (ltb-true b _ h))

  -- what holds of every owner's attributes, and of the changed ones, holds after the change
  pub attributes_hold_lem : (P : List Attribute → Type 0) (w v : Owner) (s : Store) → P (attributes_of s v) → P (f (attributes_of s w)) → P (attributes_of (attributes_by w s) v)
  unfolding attributes_of op_at block_at
  attributes_hold_lem P (of_op n) (of_op i) s p q = get_d_update (λ (o : Op). P o.attributes) op_by n i s.ops no_op p (λ e. q)
  attributes_hold_lem P (of_op n) (of_block i) s p q = p
  attributes_hold_lem P (of_block b) (of_op i) s p q = p
  attributes_hold_lem P (of_block b) (of_block i) s p q = get_d_update (λ (o : Block). P o.attributes) block_by b i s.blocks no_block p (λ e. q)

  pub attributes_total : (w : Owner) (s : Store) → owner_exists s w ≡ true
      → attribute_total (attributes_by w s) + length (attributes_of s w) ≡ attribute_total s + length (f (attributes_of s w))
  unfolding owner_exists op_exists block_exists attributes_of op_at block_at attribute_total
  attributes_total (of_op n) s h = omega (arith, sum_update (λ (o : Op). length o.attributes) op_by n s.ops no_op (ltb-true n _ h))
  attributes_total (of_block b) s h = omega (arith, sum_update (λ (o : Block). length o.attributes) block_by b s.blocks no_block (ltb-true b _ h))

pub attributes_back : (f g : List Attribute → List Attribute) (w : Owner) (s : Store)
    → (owner_exists s w ≡ true → g (f (attributes_of s w)) ≡ attributes_of s w) → attributes_by g w (attributes_by f w s) ≡ s
unfolding owner_exists attributes_of
attributes_back f g (of_op n) s e =
    ops_back (op_by f) (op_by g) n s (λ h. ap (λ (l : List Attribute). op_by (λ old. l) (op_at s n)) (e h))
attributes_back f g (of_block b) s e =
    blocks_back_lem (block_by f) (block_by g) b s (λ h. ap (λ (l : List Attribute). block_by (λ old. l) (block_at s b)) (e h))

-- ---- a key set, and a key taken away

pub set_is : (w : Owner) (a : Attribute) (s : Store) → applied s (set_attribute w a) ≡ attributes_by (put_attribute a) w s
unfolding applied op_with_attribute block_with_attribute
set_is (of_op n) a s = refl
set_is (of_block b) a s = refl

pub taken_is : (w : Owner) (k : ℕ) (s : Store) → key_taken s w k ≡ attributes_by (without_key k) w s
unfolding key_taken op_without_key block_without_key
taken_is (of_op n) k s = refl
taken_is (of_block b) k s = refl
