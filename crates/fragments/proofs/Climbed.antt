-- Going up from a thing one comes to the fragment, or to an operation that lies outside: an operation inside has a larger number than the one that
-- the fragment is, or that is next around it. Assumes nothing.
use Prim.Native.Nat.{ℕ, zero, suc, ◌<◌, ◌≤◌}
use native.Mathlib.Omega.{arith}
use mathlib.Core.Bool.{true, false}
use mathlib.Core.List.{Memᴰ}
use mathlib.Core.Logic.{◌⊎◌, inl, inr}
use Rattle.std.specs.Prelude.{Some, None}
use mathlib.Core.Path.{◌≡◌, refl, sym, ap, subst, ◌∙◌}
use borrow.Author.Tests.{ltb-true, eqb-true, eq-eqb}
use lib.ListN.{length, get_or}
use Rattle.rules.specs.Store.{Store, block_at, blocks_of, parent_of, op_around, op_after, sound}
use Rattle.rules.specs.declared.types.Owner.TheVariants.{Op as of_op, Block as of_block}
use Rattle.rules.specs.Fragments.{exists, fragment_ops, defines_blocks}
use Rattle.rules.specs.declared.types.Sort.{Sort}
use Rattle.rules.specs.declared.types.Sort.TheVariants.{Op as op, Block as block, Region as region}
use Rattle.rules.specs.Copying.{has_place}
use Rattle.rules.proofs.Basics.Tests.{decided, clash, impossible}
use Rattle.rules.proofs.Soundness.Sound.{Sound, facts}
use Rattle.rules.proofs.Soundness.Children.{blocks_in_lem}
use Rattle.rules.proofs.Form.Roots.{Root}
use Rattle.rules.proofs.Form.Once.{ops_here}
use Rattle.rules.proofs.Copying.Within.{block_child}
use Rattle.rules.proofs.Walking.Inside as inside
use Rattle.fragments.specs.Inside.{outer_op, is_itself, is_outermost}

-- ---- what it begins with, by the tests

module _ (s : Store) where
  itself_is : (f : Sort) (n m : ℕ) → is_itself f n m ≡ true → Root s f n (of_op m)
  unfolding is_itself Root
  itself_is op n m h = ap of_op (eqb-true m n h)
  itself_is block n m h = clash h refl
  itself_is region n m h = clash h refl

  itself_not : (f : Sort) (n m : ℕ) → is_itself f n m ≡ false → Root s f n (of_op m) → ⊥
  unfolding is_itself Root
  itself_not op n m h o = let e : m ≡ n = cc in clash (eq-eqb m n e) h
  itself_not block n m h o = impossible cc
  itself_not region n m h o = let e = o.2 in impossible cc

  outermost_is : (f : Sort) (n b : ℕ) → b < length s.blocks → is_outermost s f n b ≡ true → Root s f n (of_block b)
  unfolding is_outermost Root
  outermost_is op n b l h = clash h refl
  outermost_is block n b l h = ap of_block (eqb-true b n h)
  outermost_is region n b l h = (b, subst (λ (r : ℕ). Memᴰ b (blocks_of s r)) (eqb-true _ n h) (block_child s b l), refl)

  outermost_not : (f : Sort) (n b : ℕ) → is_outermost s f n b ≡ false → Root s f n (of_block b) → ⊥
  unfolding is_outermost Root
  outermost_not op n b h o = impossible cc
  outermost_not block n b h o = let e : b ≡ n = cc in clash (eq-eqb b n e) h
  outermost_not region n b h o =
      let e : of_block b ≡ of_block o.0 = o.2 in
      let f : b ≡ o.0 = cc in
      clash (eq-eqb _ n (ap (λ (c : ℕ). (block_at s c).region) f ∙ (blocks_in_lem s n o.1).1)) h

  -- next around them is the same operation
  outer_itself : (f : Sort) (n m : ℕ) → is_itself f n m ≡ true → outer_op s f n ≡ m
  unfolding is_itself outer_op
  outer_itself op n m h = sym (eqb-true m n h)
  outer_itself block n m h = clash h refl
  outer_itself region n m h = clash h refl

  outer_around : (f : Sort) (n b : ℕ) → is_outermost s f n b ≡ true → outer_op s f n ≡ op_around s b
  unfolding is_outermost outer_op op_around
  outer_around op n b h = clash h refl
  outer_around block n b h = ap (λ (c : ℕ). get_or s.regions (block_at s c).region 0) (sym (eqb-true b n h))
  outer_around region n b h = ap (λ (r : ℕ). get_or s.regions r 0) (sym (eqb-true _ n h))

-- ---- up from an operation

module _ (s : Store) (h : sound s ≡ true) (f : Sort) (n : ℕ) (ex : exists s f n ≡ true) where
  sd : Sound s
  sd = facts s h

  -- the operation around a block around an operation inside has the smaller number
  around_smaller : (m b : ℕ) → Memᴰ m (fragment_ops s f n) → parent_of s m ≡ Some b → op_around s b < m
  unfolding op_after
  around_smaller m b k e = ltb-true _ _ (sym (ap (op_after s m) e) ∙ (sd.op m (ops_here s sd f n ex m k)).later)

  least : (k m : ℕ) → m < k → Memᴰ m (fragment_ops s f n) → is_itself f n m ≡ false → outer_op s f n < m
  least zero m l i ne = absurd (omega arith)
  least (suc k) m l i ne =
      let a = inside.block_around s h f n ex m i (itself_not s f n m ne) in
      let d : op_around s a.0 < m = around_smaller m a.0 i a.1 in
      go a.0 a.2 d (least k (op_around s a.0) (omega arith)) (decided (is_outermost s f n a.0)) (decided (is_itself f n (op_around s a.0)))
    where
      go : (b : ℕ) → Memᴰ b (defines_blocks s f n) → op_around s b < m
          → (Memᴰ (op_around s b) (fragment_ops s f n) → is_itself f n (op_around s b) ≡ false → outer_op s f n < op_around s b)
          → (is_outermost s f n b ≡ true) ⊎ (is_outermost s f n b ≡ false) → (is_itself f n (op_around s b) ≡ true) ⊎ (is_itself f n (op_around s b) ≡ false)
          → outer_op s f n < m
      go b j d below (inl e) q = omega (arith, outer_around s f n b e)
      go b j d below (inr e) (inl q) = omega (arith, outer_itself s f n (op_around s b) q)
      go b j d below (inr e) (inr q) = let r : outer_op s f n < op_around s b = below (inside.op_around_lem s h f n ex b j (outermost_not s f n b e)) q in omega arith

  above : (m : ℕ) → outer_op s f n < m → is_itself f n m ≡ false
  above m l = go (decided (is_itself f n m))
    where
      go : (is_itself f n m ≡ true) ⊎ (is_itself f n m ≡ false) → is_itself f n m ≡ false
      go (inl e) = absurd (omega (arith, outer_itself s f n m e))
      go (inr e) = e

  -- where one stops on the way up: there it is the fragment, or lies outside
  pub stopped : (m : ℕ) → m ≤ outer_op s f n → is_itself f n m ≡ has_place (fragment_ops s f n) m
  stopped m l = go (decided (is_itself f n m))
    where
      go : (is_itself f n m ≡ true) ⊎ (is_itself f n m ≡ false) → is_itself f n m ≡ has_place (fragment_ops s f n) m
      go (inl e) = e ∙ sym (inside.place_root_op s h f n m (itself_is s f n m e))
      go (inr e) = e ∙ sym (inside.place_nowhere (fragment_ops s f n) m (λ k. let r : outer_op s f n < m = least (suc m) m (omega arith) k e in omega arith))

  pub op_alone : (m : ℕ) → outer_op s f n < m → parent_of s m ≡ None → has_place (fragment_ops s f n) m ≡ false
  op_alone m l e = inside.place_alone s h f n ex m e (itself_not s f n m (above m l))

  pub op_in_block : (m b : ℕ) → m < length s.ops → outer_op s f n < m → parent_of s m ≡ Some b → has_place (fragment_ops s f n) m ≡ has_place (defines_blocks s f n) b
  op_in_block m b l d e = inside.place_op s h f n ex m b l e (itself_not s f n m (above m d))

  pub block_outermost : (b : ℕ) → b < length s.blocks → is_outermost s f n b ≡ true → has_place (defines_blocks s f n) b ≡ true
  block_outermost b l e = inside.place_root_block s h f n b (outermost_is s f n b l e)

  pub block_in_op : (b : ℕ) → b < length s.blocks → is_outermost s f n b ≡ false → has_place (defines_blocks s f n) b ≡ has_place (fragment_ops s f n) (op_around s b)
  block_in_op b l e = inside.place_block s h f n ex b l (outermost_not s f n b e)
