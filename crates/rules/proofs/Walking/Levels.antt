-- An operation in a region of another has one level less left than that one, and in a sound store every operation has its levels
-- counted from 32: so what holds of a region with a number of levels, if it holds of those next inside it with one less, holds with every
-- number above 32. Assumes nothing.
use Prim.Native.Nat.{ℕ, zero, suc, ◌≤◌, ◌<◌}
use native.Mathlib.Decide.{dec_lt}
use native.Mathlib.Omega.{arith}
use mathlib.Core.Bool.{true}
use mathlib.Core.List.{Memᴰ}
use Rattle.std.specs.Prelude.{Option, None, Some, is_some}
use mathlib.Core.Path.{◌≡◌, refl, ap}
use lib.ListN.{length, get_or-eq_default}
use Rattle.rules.specs.Store.{Store, no_op, op_at, parent_of, op_around, levels_left, max_nesting, nesting_holds, regions_of, blocks_of, ops_of, sound}
use Rattle.rules.specs.Fragments.{levels, ops_in_blocks, ops_inside}
use Rattle.rules.proofs.Basics.Distinct.{mem_concat_map}
use Rattle.rules.proofs.Basics.Tests.{clash, impossible}
use Rattle.rules.proofs.Soundness.Sound.{facts}
use Rattle.rules.proofs.Soundness.Children.{ops_in_lem, blocks_in_lem, regions_in_lem}

is_some_lem : (q : Option ℕ) → is_some q ≡ true → (j : ℕ) × (q ≡ Some j)
is_some_lem None h = clash h refl
is_some_lem (Some j) h = (j, refl)

module _ (s : Store) where
  -- of so many levels an operation with this parent leaves j
  abbrev pub Leaves : ℕ → Option ℕ → ℕ → Type 0
  Leaves k p j = levels_left k s p ≡ Some j

  leaves_more : (k : ℕ) (p : Option ℕ) (j : ℕ) → Leaves k p j → Leaves (suc k) p (suc j)
  unfolding levels_left
  leaves_more zero None j h = let e : 0 ≡ j = cc in ap (λ (i : ℕ). Some (suc i)) e
  leaves_more zero (Some b) j h = cc
  leaves_more (suc k) None j h = cc
  leaves_more (suc k) (Some b) j h = leaves_more k (parent_of s (op_around s b)) j h

  pub leaves_most : (k : ℕ) (p : Option ℕ) (j : ℕ) → Leaves k p j → j ≤ k
  unfolding levels_left
  leaves_most zero None j h = let e : 0 ≡ j = cc in omega arith
  leaves_most zero (Some b) j h = impossible cc
  leaves_most (suc k) None j h = let e : suc k ≡ j = cc in omega arith
  leaves_most (suc k) (Some b) j h = let l : j ≤ k = leaves_most k (parent_of s (op_around s b)) j h in omega arith

  -- inside a block one level less is left than around it
  pub leaves_inside : (k b i j : ℕ) → Leaves (suc k) (parent_of s (op_around s b)) j → Leaves (suc k) (Some b) i → j ≡ suc i
  unfolding levels_left
  leaves_inside k b i j around inside = let e : Leaves (suc k) (parent_of s (op_around s b)) (suc i) = leaves_more k _ i inside in cc

  pub around_block : (n : ℕ) {r b : ℕ} → Memᴰ r (regions_of s n) → Memᴰ b (blocks_of s r) → op_around s b ≡ n
  unfolding op_around
  around_block n r∈ b∈ = rw (blocks_in_lem s _ b∈).1 (regions_in_lem s n r∈).1

module _ (s : Store) (sd : sound s ≡ true) where
  -- the levels that an operation leaves; one that is not in the store has no parent, and leaves all
  pub op_leaves : (n : ℕ) → (j : ℕ) × Leaves s max_nesting (parent_of s n) j
  unfolding nesting_holds parent_of op_at no_op levels_left
  op_leaves n = go (dec_lt n (length s.ops))
    where
      go : Dec (n < length s.ops) → (j : ℕ) × Leaves s max_nesting (op_at s n).parent j
      go (yes l) = is_some_lem _ ((facts s sd).op n l).nesting
      go (no g) =
          let l : length s.ops ≤ n = omega arith in
          (max_nesting, rw (get_or-eq_default s.ops no_op l))

  -- an operation inside another leaves one less
  pub nested_leaves : (n j : ℕ) → Leaves s max_nesting (parent_of s n) j
      → {r b m : ℕ} → Memᴰ r (regions_of s n) → Memᴰ b (blocks_of s r) → Memᴰ m (ops_of s b)
      → (i : ℕ) × Leaves s max_nesting (parent_of s m) i × (j ≡ suc i)
  nested_leaves n j h {b} {m} r∈ b∈ m∈ =
      let i = op_leaves m in
      let around : Leaves s max_nesting (parent_of s (op_around s b)) j = rw (around_block s n r∈ b∈) h in
      let inside : Leaves s max_nesting (Some b) i.0 = rw (ops_in_lem s b m∈).1 at i.1 in
      (i.0, i.1, leaves_inside s 31 b i.0 j around inside)

  -- in a block one level is taken
  block_leaves : (b : ℕ) {m : ℕ} → Memᴰ m (ops_of s b) → (i : ℕ) × Leaves s max_nesting (parent_of s m) i × (i < max_nesting)
  unfolding levels_left
  block_leaves b {m} m∈ =
      let i = op_leaves m in
      let inside : Leaves s max_nesting (Some b) i.0 = rw (ops_in_lem s b m∈).1 at i.1 in
      let l : i.0 ≤ 31 = leaves_most s 31 (parent_of s (op_around s b)) i.0 inside in
      (i.0, i.1, omega arith)

  pub inside_leaves : (n j : ℕ) → Leaves s max_nesting (parent_of s n) j → (m : ℕ) → Memᴰ m (ops_inside s n)
      → (i : ℕ) × Leaves s max_nesting (parent_of s m) i × (j ≡ suc i)
  unfolding ops_inside ops_in_blocks
  inside_leaves n j h m m∈ =
      let r = mem_concat_map _ (regions_of s n) m∈ in
      let b = mem_concat_map (ops_of s) (blocks_of s r.0) r.2 in
      nested_leaves n j h r.1 b.1 b.2

  -- ---- what holds of a region with two numbers of levels, if it does of those next inside it with one level less

  module _ (P : ℕ → ℕ → ℕ → Type 0)
      (step : (k l r : ℕ) → ((b n q : ℕ) → Memᴰ b (blocks_of s r) → Memᴰ n (ops_of s b) → Memᴰ q (regions_of s n) → P k l q)
      → P (suc k) (suc l) r) where
    -- in an operation, with more levels than it leaves
    in_op : (k l j : ℕ) → j < k → j < l → (n : ℕ) → Leaves s max_nesting (parent_of s n) j → (r : ℕ) → Memᴰ r (regions_of s n) → P k l r
    in_op zero l j a c n h r r∈ = absurd (omega arith)
    in_op (suc k) zero j a c n h r r∈ = absurd (omega arith)
    in_op (suc k) (suc l) j a c n h r r∈ =
        step k l r
        (λ b m q b∈ m∈ q∈. let w = nested_leaves n j h r∈ b∈ m∈ in
        let e : j ≡ suc w.0 = w.2 in
        in_op k l w.0 (omega arith) (omega arith) m w.1 q q∈)

    pub by_levels : (k l : ℕ) → levels ≤ k → levels ≤ l → (r : ℕ) → P k l r
    by_levels zero l a c r = absurd (omega arith)
    by_levels (suc k) zero a c r = absurd (omega arith)
    by_levels (suc k) (suc l) a c r =
        step k l r
        (λ b n q b∈ n∈ q∈. let w = block_leaves b n∈ in
        let i : w.0 < max_nesting = w.2 in
        in_op k l w.0 (omega arith) (omega arith) n w.1 q q∈)
