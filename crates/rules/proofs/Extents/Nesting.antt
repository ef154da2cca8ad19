-- The deepest nesting is what it should be: an operation's depth is 32 less the levels that it leaves, one more than that of the operation
-- around it, so the regions between it and the fragment are told by its depth; and a walk comes to all that is inside. Assumes nothing.
use Prim.Native.Nat.{ℕ, zero, suc, ◌+◌, ◌-◌, ◌<◌, ◌≤◌}
use native.Mathlib.Omega.{arith}
use mathlib.Core.Bool.{true}
use mathlib.Core.List.Memᴰ
use mathlib.Core.List.{[], Memᴰ}
use mathlib.Core.Logic.{◌⊎◌, inl, inr, ⊎_elim}
use Rattle.std.specs.Prelude.{Option, None, Some}
use mathlib.Core.Path.{◌≡◌, sym, ap, subst, ◌∙◌}
use lib.ListN.{length, get_or}
use Rattle.rules.specs.Store.{Store, parent_of, op_around, levels_left, max_nesting, ops_of, blocks_of, sound}
use Rattle.rules.specs.Fragments.{fragment_ops, ops_in_blocks, ops_inside, outermost}
use Rattle.rules.specs.declared.types.Sort.{Sort}
use Rattle.rules.specs.declared.types.Sort.TheVariants.{Op as op, Block as block, Region as region}
use Rattle.rules.specs.Extents.{deepest, op_nesting, deepest_nesting}
use Rattle.rules.specs.ExtentLaws.{Between, ExtentNesting}
use Rattle.rules.proofs.Basics.Distinct.{mem_concat_map}
use Rattle.rules.proofs.Soundness.Children.{ops_in_lem, blocks_in_lem}
use Rattle.rules.proofs.Walking.Levels.{Leaves, leaves_most, leaves_inside, op_leaves, inside_leaves}
use Rattle.rules.proofs.Extents.Deepest.{deepest_most, deepest_attained, deepest_least}
use Rattle.rules.proofs.Extents.Inside.{At, at_self, at_inside, at_under, height, height_enough, fragment_at, at_fragment}
use Rattle.rules.proofs.Extents.Depths.{inside_deeper, fragment_nesting_by_depth}

-- in any store
op_nesting_most : (s : Store) (k n : ℕ) → op_nesting k s n ≤ k
unfolding op_nesting
op_nesting_most s zero n = omega arith
op_nesting_most s (suc k) n =
    deepest_least (λ (m : ℕ). suc (op_nesting k s m)) (suc k) (ops_inside s n) (λ m i. omega (arith, op_nesting_most s k m))

pub nesting_most : (s : Store) (f : Sort) (a : ℕ) → deepest_nesting s f a ≤ max_nesting
unfolding deepest_nesting
nesting_most s f a = deepest_least (op_nesting max_nesting s) max_nesting (outermost s f a) (λ n m. op_nesting_most s max_nesting n)

module _ (s : Store) where
  -- ---- depths

  depth_by : Option ℕ → ℕ
  depth_by None = 0
  depth_by (Some j) = max_nesting - j

  depth : ℕ → ℕ
  depth n = depth_by (levels_left max_nesting s (parent_of s n))

  -- of a fragment's outermost operations
  outer_depth : Sort → ℕ → ℕ
  outer_depth op n = depth n
  outer_depth block b = depth (op_around s b) + 1
  outer_depth region r = depth (get_or s.regions r 0) + 1

module _ (s : Store) (sd : sound s ≡ true) where
  depth_is : (n j : ℕ) → Leaves s max_nesting (parent_of s n) j → depth s n ≡ max_nesting - j
  unfolding depth depth_by
  depth_is n j h = ap (depth_by s) h

  depth_deeper : (m b : ℕ) → m < length s.ops → parent_of s m ≡ Some b → depth s m ≡ depth s (op_around s b) + 1
  depth_deeper m b l e =
      let i = op_leaves s sd m in
      let j = op_leaves s sd (op_around s b) in
      let inside : Leaves s max_nesting (Some b) i.0 = rw e at i.1 in
      let d : j.0 ≡ suc i.0 = leaves_inside s 31 b i.0 j.0 j.1 inside in
      let most : j.0 ≤ max_nesting = leaves_most s max_nesting (parent_of s (op_around s b)) j.0 j.1 in
      omega (arith, depth_is m i.0 i.1, depth_is (op_around s b) j.0 j.1)

  outer_is : (f : Sort) (a m : ℕ) → Memᴰ m (outermost s f a) → depth s m ≡ outer_depth s f a
  unfolding outermost outer_depth ops_in_blocks op_around
  outer_is op a m i = ap (depth s) (Memᴰ.eq_of_singleton i)
  outer_is block a m i = let k = ops_in_lem s a i in depth_deeper m a k.0 k.1
  outer_is region a m i =
      let b = mem_concat_map (ops_of s) (blocks_of s a) i in
      let k = ops_in_lem s b.0 b.2 in
      depth_deeper m b.0 k.0 k.1 ∙ ap (λ (r : ℕ). depth s (get_or s.regions r 0) + 1) (blocks_in_lem s a b.1).1

  -- ---- what a walk comes to under an operation holds what is next inside

  at_closed : (k j n x m : ℕ) → Leaves s max_nesting (parent_of s n) j → j ≤ k → At s k n x → Memᴰ m (ops_inside s x) → At s k n m
  at_closed zero j n x m h l a i =
      let w = inside_leaves s sd n j h m (subst (λ (o : ℕ). Memᴰ m (ops_inside s o)) (at_under s zero n x a) i) in
      let e : j ≡ suc w.0 = w.2 in
      absurd (omega arith)
  at_closed (suc k) j n x m h l a i =
      ⊎_elim
      (λ e. at_inside s k n m m (subst (λ (o : ℕ). Memᴰ m (ops_inside s o)) e i) (at_self s k m))
      (λ p. let w = inside_leaves s sd n j h p.0 p.1 in
      let e : j ≡ suc w.0 = w.2 in
      at_inside s k n p.0 m p.1 (at_closed k w.0 p.0 x m w.1 (omega arith) p.2 i))
      (at_under s (suc k) n x a)

  module _ (f : Sort) (a : ℕ) where
    between_in : (k m : ℕ) → Between k s f a m → Memᴰ m (fragment_ops s f a)
    unfolding Between
    between_in zero m h = at_fragment s f a m m h (at_self s (height f) m)
    between_in (suc k) m h =
        let p = fragment_at s f a h.0 (between_in k h.0 h.1.0) in
        let j = op_leaves s sd p.0 in
        let l : j.0 ≤ max_nesting = leaves_most s max_nesting (parent_of s p.0) j.0 j.1 in
        at_fragment s f a p.0 m p.1 (at_closed (height f) j.0 p.0 h.0 m j.1 (omega (arith, height_enough f)) p.2 h.1.1)

    at_between : (k n m i : ℕ) → Between i s f a n → At s k n m → (j : ℕ) × Between j s f a m
    unfolding Between
    at_between zero n m i b h = (i, subst (Between i s f a) (sym (at_under s zero n m h)) b)
    at_between (suc k) n m i b h =
        ⊎_elim (λ e. (i, subst (Between i s f a) (sym e) b)) (λ p. at_between k p.0 m (suc i) (n, (b, p.1)) p.2) (at_under s (suc k) n m h)

    in_between : (m : ℕ) → Memᴰ m (fragment_ops s f a) → (k : ℕ) × Between k s f a m
    unfolding Between
    in_between m h = let p = fragment_at s f a m h in at_between (height f) p.0 m 0 p.1 p.2

    between_depth : (k m : ℕ) → Between k s f a m → depth s m ≡ outer_depth s f a + k
    unfolding Between
    between_depth zero m h = omega (arith, outer_is f a m h)
    between_depth (suc k) m h = omega (arith, between_depth k h.0 h.1.0, inside_deeper s sd (depth s) depth_deeper h.0 h.1.1)

    nesting_is : deepest_nesting s f a ≡ deepest (λ (m : ℕ). depth s m - outer_depth s f a) (fragment_ops s f a)
    nesting_is = (fragment_nesting_by_depth s sd (depth s) depth_deeper f a (outer_depth s f a) (outer_is f a)).1

    passed_by_none : (k m : ℕ) → Between k s f a m → k ≤ deepest_nesting s f a
    passed_by_none k m b =
        omega (arith, nesting_is, between_depth k m b, deepest_most (λ (o : ℕ). depth s o - outer_depth s f a) (between_in k m b))

    attained : ((m : ℕ) × Between (deepest_nesting s f a) s f a m) ⊎ ((fragment_ops s f a ≡ []) × (deepest_nesting s f a ≡ 0))
    attained =
        ⊎_elim
        (λ x. let b = in_between x.0 x.1 in
        let e : b.0 ≡ deepest_nesting s f a = omega (arith, nesting_is, between_depth b.0 x.0 b.1, x.2) in
        inl (x.0, subst (λ (k : ℕ). Between k s f a x.0) e b.1))
        (λ e. inr (e.0, nesting_is ∙ e.1))
        (deepest_attained (λ (m : ℕ). depth s m - outer_depth s f a) (fragment_ops s f a))

pub extent_nesting : ExtentNesting
unfolding ExtentNesting
extent_nesting s sd f a h =
    record {
      passed_by_none = passed_by_none s sd f a;
      attained = attained s sd f a;
      inside = λ m. (in_between s sd f a m, λ b. between_in s sd f a b.0 m b.1);
      counted_once = λ j k m b c. omega (arith, between_depth s sd f a j m b, between_depth s sd f a k m c);
    }
