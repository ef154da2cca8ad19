-- What an operation of a sound store defines, as it is copied: each thing once, each of the store; what is around a thing inside is inside too, and
-- has the smaller next number. Assumes nothing.
use Prim.Native.Nat.{ℕ, zero, suc, ◌+◌, ◌<◌}
use native.Mathlib.Omega.{arith}
use mathlib.Core.Bool.{Bool, true, false, cond}
use mathlib.Core.List.{List, [], ◌∷◌, Memᴰ}
use mathlib.Core.Logic.{⊎_elim}
use Rattle.std.specs.Prelude.{Option, None, Some, option_map}
use Rattle.std.proofs.lemmas.Option.{same_Some, none-some}
use mathlib.Core.Path.{◌≡◌, refl, sym, subst, ◌∙◌}
use borrow.Author.Tests.{ltb-true, eq-eqb}
use lib.Dec.{eqb}
use lib.ListN.{length, get_or}
use Rattle.rules.specs.Lists.{numbers_from, numbers_where}
use Rattle.rules.specs.Store.{Store, op_exists, region_exists, parent_of, op_around, block_at, value_at, regions_of}
use Rattle.rules.specs.declared.types.Owner.{Owner}
use Rattle.rules.specs.declared.types.Owner.TheVariants.{Op as of_op, Block as of_block}
use Rattle.rules.specs.Fragments.{exists, op_owner, block_owner, defines_owners, defines_blocks, defines_values, fragment_ops}
use Rattle.rules.specs.declared.types.Sort.TheVariants.{Op as op}
use Rattle.rules.specs.Copying.{copied_regions, op_copy, block_copy}
use Rattle.rules.proofs.Soundness.Sound.{Sound}
use Rattle.rules.proofs.Soundness.Children.{regions_in_lem, regions_distinct}
use Rattle.rules.proofs.Basics.Tests.{impossible}
use Rattle.rules.proofs.Basics.Distinct.{Distinct, distinct_concat_map}
use Rattle.rules.proofs.Form.Ancestors.{up}
use Rattle.rules.proofs.Form.Once.{owners_once, ops_once, blocks_once_lem, values_once_lem, ops_here, blocks_here}
use Rattle.rules.proofs.Form.Owned as owned
use Rattle.rules.proofs.Copying.Renumbered.{Before, first_in, before_trans, before_between, before_less, in_concat_map}
use Rattle.rules.proofs.Copying.Walked.{around_before}

-- a place where the test passes is listed
numbers_in : {A : Type 0} (p : A → Bool) (d : A) (n : ℕ) (xs : List A) (i : ℕ) → i < length xs → p (get_or xs i d) ≡ true → Memᴰ (n + i) (numbers_from n p xs)
unfolding numbers_from
numbers_in p d n [] i l h = absurd (omega arith)
numbers_in p d n (x ∷ xs) zero l h = let e : n + 0 ≡ n = omega arith in rw (h, e) (Memᴰ.head refl)
numbers_in p d n (x ∷ xs) (suc i) l h =
    let e : n + suc i ≡ suc n + i = omega arith in
    rw e (later (p x) (numbers_in p d (suc n) xs i (omega arith) h))
  where
    later : (b : Bool) → Memᴰ (suc n + i) (numbers_from (suc n) p xs) → Memᴰ (suc n + i) (cond b (n ∷ numbers_from (suc n) p xs) (numbers_from (suc n) p xs))
    later true m = Memᴰ.tail m
    later false m = m

pub number_in : {A : Type 0} (p : A → Bool) (d : A) (xs : List A) (i : ℕ) → i < length xs → p (get_or xs i d) ≡ true → Memᴰ i (numbers_where p xs)
unfolding numbers_where
number_in p d xs i l h = let e : 0 + i ≡ i = omega arith in subst (λ (k : ℕ). Memᴰ k (numbers_from 0 p xs)) e (numbers_in p d 0 xs i l h)

pub region_listed : (s : Store) (r : ℕ) → r < length s.regions → Memᴰ r (regions_of s (get_or s.regions r 0))
unfolding regions_of
region_listed s r l = number_in (λ (o : ℕ). eqb o (get_or s.regions r 0)) 0 s.regions r l (eq-eqb (get_or s.regions r 0) (get_or s.regions r 0) refl)

module _ (s : Store) (sd : Sound s) (n : ℕ) (ex : op_exists s n ≡ true) where
  existing : exists s op n ≡ true
  unfolding exists
  existing = ex

  -- ---- each once, each of the store

  pub ops_distinct : Distinct (fragment_ops s op n)
  ops_distinct = ops_once s sd op n existing

  pub blocks_distinct : Distinct (defines_blocks s op n)
  blocks_distinct = blocks_once_lem s sd op n existing

  pub values_distinct : Distinct (defines_values s op n)
  values_distinct = values_once_lem s sd op n existing

  pub copied_distinct : Distinct (copied_regions s n)
  unfolding copied_regions
  copied_distinct =
      distinct_concat_map (regions_of s) (fragment_ops s op n) ops_distinct (λ m k. regions_distinct s m) (λ m o km ko r i j. sym (regions_in_lem s m i).1 ∙ (regions_in_lem s o j).1)

  pub op_below : {m : ℕ} → Memᴰ m (fragment_ops s op n) → m < length s.ops
  op_below {m} k = ops_here s sd op n existing m k

  pub block_below : {b : ℕ} → Memᴰ b (defines_blocks s op n) → b < length s.blocks
  block_below {b} k = blocks_here s sd op n existing b k

  -- ---- operations and blocks among the owners

  pub op_owned : {m : ℕ} → Memᴰ m (fragment_ops s op n) → Memᴰ (of_op m) (defines_owners s op n)
  op_owned k = owned.op_owned s op n k

  pub owned_op : {m : ℕ} → Memᴰ (of_op m) (defines_owners s op n) → Memᴰ m (fragment_ops s op n)
  owned_op k = owned.owned_op s op n k

  pub block_owned : {b : ℕ} → Memᴰ b (defines_blocks s op n) → Memᴰ (of_block b) (defines_owners s op n)
  block_owned k = owned.block_owned s op n k

  pub owned_block : {b : ℕ} → Memᴰ (of_block b) (defines_owners s op n) → Memᴰ b (defines_blocks s op n)
  owned_block k = owned.owned_block s op n k

  -- ---- what is around it

  -- the block around an operation inside
  block_first : (m : ℕ) → Memᴰ m (fragment_ops s op n) → (m ≡ n → ⊥) → (b : ℕ) × (parent_of s m ≡ Some b) × Before (of_block b) (of_op m) (defines_owners s op n)
  unfolding up
  block_first m k ne = ⊎_elim (λ e. absurd (ne cc)) (λ h. go (parent_of s m) refl h.0 h.1 h.2) (around_before s n (of_op m) (op_owned k))
    where
      go : (q : Option ℕ) → parent_of s m ≡ q → (p : Owner) → option_map of_block q ≡ Some p → Before p (of_op m) (defines_owners s op n)
          → (b : ℕ) × (parent_of s m ≡ Some b) × Before (of_block b) (of_op m) (defines_owners s op n)
      go None e p f h = absurd (none-some p f)
      go (Some b) e p f h = (b, e, subst (λ (x : Owner). Before x (of_op m) (defines_owners s op n)) (sym (same_Some (of_block b) p f)) h)

  -- the operation around a block inside
  op_first : (b : ℕ) → Memᴰ b (defines_blocks s op n) → Before (of_op (op_around s b)) (of_block b) (defines_owners s op n)
  unfolding up
  op_first b k =
      ⊎_elim (λ e. impossible cc)
      (λ h. subst (λ (x : Owner). Before x (of_block b) (defines_owners s op n)) (sym (same_Some (of_op (op_around s b)) h.0 h.1)) h.2)
      (around_before s n (of_block b) (block_owned k))

  pub block_around : (m : ℕ) → Memᴰ m (fragment_ops s op n) → (m ≡ n → ⊥) → (b : ℕ) × (parent_of s m ≡ Some b) × Memᴰ b (defines_blocks s op n)
  block_around m k ne = let h = block_first m k ne in (h.0, h.1, owned_block (first_in h.2))

  pub op_around_lem : (b : ℕ) → Memᴰ b (defines_blocks s op n) → Memᴰ (op_around s b) (fragment_ops s op n)
  op_around_lem b k = owned_op (first_in (op_first b k))

  pub region_around : (b : ℕ) → Memᴰ b (defines_blocks s op n) → Memᴰ (block_at s b).region (copied_regions s n)
  unfolding copied_regions op_around region_exists
  region_around b k =
      in_concat_map (regions_of s) (fragment_ops s op n) (op_around_lem b k) (region_listed s (block_at s b).region (ltb-true _ _ (sd.block b (block_below k)).region_in))

  -- ---- the numbers rise

  pub op_rises : (m b : ℕ) → Memᴰ m (fragment_ops s op n) → (m ≡ n → ⊥) → parent_of s m ≡ Some b → op_copy s n (op_around s b) < op_copy s n m
  unfolding op_copy fragment_ops op_owner
  op_rises m b k ne e =
      let h = block_first m k ne in
      let f : h.0 ≡ b = same_Some h.0 b (sym h.1 ∙ e) in
      let g : Before (of_block b) (of_op m) (defines_owners s op n) = subst (λ (c : ℕ). Before (of_block c) (of_op m) (defines_owners s op n)) f h.2 in
      let i = op_first b (owned_block (first_in g)) in
      before_less (before_between op_owner (before_trans (owners_once s sd op n existing) i g) (Memᴰ.head refl) (Memᴰ.head refl)) ops_distinct (length s.ops)

  pub block_rises : (b c : ℕ) → Memᴰ b (defines_blocks s op n) → (op_around s b ≡ n → ⊥) → parent_of s (op_around s b) ≡ Some c
      → Memᴰ c (defines_blocks s op n) × (block_copy s n c < block_copy s n b)
  unfolding block_copy defines_blocks block_owner
  block_rises b c k ne e =
      let h = block_first (op_around s b) (op_around_lem b k) ne in
      let f : h.0 ≡ c = same_Some h.0 c (sym h.1 ∙ e) in
      let g : Before (of_block c) (of_op (op_around s b)) (defines_owners s op n) = subst (λ (x : ℕ). Before (of_block x) (of_op (op_around s b)) (defines_owners s op n)) f h.2 in (
        owned_block (first_in g),
        before_less (before_between block_owner (before_trans (owners_once s sd op n existing) g (op_first b k)) (Memᴰ.head refl) (Memᴰ.head refl)) blocks_distinct (length s.blocks),
      )

  -- the owner of a value inside
  pub value_owner_lem : {v : ℕ} → Memᴰ v (defines_values s op n) → (v < length s.values) × Memᴰ (value_at s v).owner (defines_owners s op n)
  value_owner_lem k = owned.value_owner_lem s op n k
