-- How deep a fragment is nested, by depths: where each operation's is one more than that of the operation around it, there are as many
-- regions between two, one inside the other, as their depths differ; so the deepest nesting is the largest depth inside less the outermost
-- one. Assumes nothing.
use Prim.Native.Nat.{ℕ, zero, suc, ◌+◌, ◌-◌, ◌<◌, ◌≤◌}
use native.Mathlib.Omega.{arith}
use mathlib.Core.Bool.{true}
use mathlib.Core.List.{Memᴰ}
use mathlib.Core.Logic.{◌⊎◌, inl, inr, ⊎_elim}
use Rattle.std.specs.Prelude.{Some}
use mathlib.Core.Path.{◌≡◌, sym, ap, ◌∙◌}
use lib.ListN.{length}
use Rattle.rules.specs.Store.{Store, parent_of, op_around, max_nesting, ops_of, blocks_of, regions_of, sound}
use Rattle.rules.specs.Fragments.{fragment_ops, ops_in_blocks, ops_inside, outermost}
use Rattle.rules.specs.declared.types.Sort.{Sort}
use Rattle.rules.specs.Extents.{deepest, op_nesting, deepest_nesting}
use Rattle.rules.proofs.Basics.Distinct.{mem_concat_map}
use Rattle.rules.proofs.Soundness.Children.{ops_in_lem}
use Rattle.rules.proofs.Walking.Levels.{Leaves, op_leaves, leaves_most, inside_leaves, around_block}
use Rattle.rules.proofs.Extents.Deepest.{deepest_most, deepest_attained, deepest_is}
use Rattle.rules.proofs.Extents.Inside.{At, at_self, at_inside, at_under, height, height_enough, fragment_at, at_fragment}

module _ (s : Store) (sd : sound s ≡ true) where
  module _ (D : ℕ → ℕ) (deeper : (m b : ℕ) → m < length s.ops → parent_of s m ≡ Some b → D m ≡ D (op_around s b) + 1) where
    pub inside_deeper : (n : ℕ) {m : ℕ} → Memᴰ m (ops_inside s n) → D m ≡ D n + 1
    unfolding ops_inside ops_in_blocks
    inside_deeper n {m} i =
        let r = mem_concat_map _ (regions_of s n) i in
        let b = mem_concat_map (ops_of s) (blocks_of s r.0) r.2 in
        let k = ops_in_lem s b.0 b.2 in
        deeper m b.0 k.0 k.1 ∙ ap (λ (o : ℕ). D o + 1) (around_block s n r.1 b.1)

    -- ---- under an operation

    at_least : (k n m : ℕ) → At s k n m → D n ≤ D m
    at_least zero n m i = let e : D m ≡ D n = ap D (at_under s zero n m i) in omega arith
    at_least (suc k) n m i =
        ⊎_elim
        (λ e. let f : D m ≡ D n = ap D e in omega arith)
        (λ p. omega (arith, inside_deeper n p.1, at_least k p.0 m p.2))
        (at_under s (suc k) n m i)

    at_most : (k i n m j : ℕ) → Leaves s max_nesting (parent_of s n) j → j ≤ i → At s k n m → D m ≤ D n + op_nesting i s n
    unfolding op_nesting
    at_most zero i n m j h l a = let e : D m ≡ D n = ap D (at_under s zero n m a) in omega arith
    at_most (suc k) zero n m j h l a =
        ⊎_elim
        (λ e. let f : D m ≡ D n = ap D e in omega arith)
        (λ p. let w = inside_leaves s sd n j h p.0 p.1 in absurd (omega arith))
        (at_under s (suc k) n m a)
    at_most (suc k) (suc i) n m j h l a =
        ⊎_elim
        (λ e. let f : D m ≡ D n = ap D e in omega arith)
        (λ p. let w = inside_leaves s sd n j h p.0 p.1 in
        let e : j ≡ suc w.0 = w.2 in
        let here : suc (op_nesting i s p.0) ≤ op_nesting (suc i) s n = deepest_most (λ (q : ℕ). suc (op_nesting i s q)) p.1 in
        omega (arith, at_most k i p.0 m w.0 w.1 (omega arith) p.2, inside_deeper n p.1))
        (at_under s (suc k) n m a)

    attained : (i k n : ℕ) → i ≤ k → (m : ℕ) × At s k n m × (D m ≡ D n + op_nesting i s n)
    unfolding op_nesting
    attained zero k n l = (n, at_self s k n, omega arith)
    attained (suc i) zero n l = absurd (omega arith)
    attained (suc i) (suc k) n l =
        ⊎_elim
        (λ p. let r = attained i k p.0 (omega arith) in
        let e : D r.0 ≡ D p.0 + op_nesting i s p.0 = r.2 in
        let d : suc (op_nesting i s p.0) ≡ deepest (λ (q : ℕ). suc (op_nesting i s q)) (ops_inside s n) = p.2 in
        (r.0, at_inside s k n p.0 r.0 p.1 r.1, omega (arith, inside_deeper n p.1)))
        (λ e. let d : deepest (λ (q : ℕ). suc (op_nesting i s q)) (ops_inside s n) ≡ 0 = e.1 in (n, at_self s (suc k) n, omega arith))
        (deepest_attained (λ (q : ℕ). suc (op_nesting i s q)) (ops_inside s n))

    -- ---- in a fragment

    module _ (f : Sort) (a d0 : ℕ) (outer : (m : ℕ) → Memᴰ m (outermost s f a) → D m ≡ d0) where
      none_above : (m : ℕ) → Memᴰ m (fragment_ops s f a) → d0 ≤ D m
      none_above m i =
          let p = fragment_at s f a m i in
          omega (arith, outer p.0 p.1, at_least (height f) p.0 m p.2)

      none_below : (m : ℕ) → Memᴰ m (fragment_ops s f a) → D m - d0 ≤ deepest_nesting s f a
      unfolding deepest_nesting
      none_below m i =
          let p = fragment_at s f a m i in
          let j = op_leaves s sd p.0 in
          let l : j.0 ≤ max_nesting = leaves_most s max_nesting (parent_of s p.0) j.0 j.1 in
          omega (arith, outer p.0 p.1, at_most (height f) max_nesting p.0 m j.0 j.1 l p.2, deepest_most (op_nesting max_nesting s) p.1)

      one_so_deep : ((m : ℕ) × Memᴰ m (fragment_ops s f a) × (D m - d0 ≡ deepest_nesting s f a)) ⊎ (deepest_nesting s f a ≡ 0)
      unfolding deepest_nesting
      one_so_deep =
          ⊎_elim
          (λ p. let r = attained max_nesting (height f) p.0 (height_enough f) in
          let e : D r.0 ≡ D p.0 + op_nesting max_nesting s p.0 = r.2 in
          inl (r.0, at_fragment s f a p.0 r.0 p.1 r.1, omega (arith, outer p.0 p.1, p.2)))
          (λ e. inr e.1)
          (deepest_attained (op_nesting max_nesting s) (outermost s f a))

      pub fragment_nesting_by_depth :
          ((m : ℕ) → Memᴰ m (fragment_ops s f a) → d0 ≤ D m) × (deepest_nesting s f a ≡ deepest (λ (m : ℕ). D m - d0) (fragment_ops s f a))
      fragment_nesting_by_depth =
          (none_above, sym (deepest_is (λ (m : ℕ). D m - d0) (deepest_nesting s f a) (fragment_ops s f a) none_below one_so_deep))
