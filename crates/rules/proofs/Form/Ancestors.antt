-- In a sound store what is around a thing has a smaller rank, so that nothing is around itself; and of two siblings only one can be
-- around a thing. Assumes nothing.
use Prim.Native.Nat.{ℕ, ◌+◌, ◌*◌, ◌<◌}
use native.Mathlib.Omega.{arith}
use mathlib.Core.Bool.{true}
use mathlib.Core.Logic.{◌⊎◌, inl, inr}
use Rattle.std.specs.Prelude.{Option, None, Some, option_map}
use Rattle.std.proofs.lemmas.Option.{same_Some, none-some}
use mathlib.Core.Path.{◌≡◌, refl, sym, subst, ◌∙◌}
use borrow.Author.Tests.{ltb-true}
use lib.ListN.{length}
use Rattle.rules.specs.Store.{Store, parent_of, op_around, op_after, parent_exists, owner_exists, op_exists, block_exists}
use Rattle.rules.specs.declared.types.Owner.{Owner}
use Rattle.rules.specs.declared.types.Owner.TheVariants.{Op as of_op, Block as of_block}
use Rattle.rules.proofs.Soundness.Sound.{Sound}
use Rattle.rules.proofs.Soundness.Grown.{owner_op, parent_in_lem, around_in}

-- the block around an operation, or none; the operation around a block
unfoldable pub up : Store → Owner → Option Owner
up s (of_op n) = option_map of_block (parent_of s n)
up s (of_block b) = Some (of_op (op_around s b))

-- a is around the thing, at some distance
pub data Around (s : Store) (a : Owner) : Owner → Type 0 where
  next : {x : Owner} → up s x ≡ Some a → Around s a x
  beyond : {x p : Owner} → up s x ≡ Some p → Around s a p → Around s a x

-- a is the thing itself or around it
abbrev pub From : Store → Owner → Owner → Type 0
From s a x = (x ≡ a) ⊎ Around s a x

pub around_trans : {s : Store} {a b x : Owner} → Around s a b → Around s b x → Around s a x
around_trans h (next e) = beyond e h
around_trans h (beyond e k) = beyond e (around_trans h k)

pub around_from : {s : Store} {a b x : Owner} → Around s a b → From s b x → Around s a x
around_from {s} {a} h (inl e) = subst (Around s a) (sym e) h
around_from h (inr k) = around_trans h k

-- and around a sibling of the thing
pub around_sibling : {s : Store} {a x y : Owner} → up s x ≡ up s y → Around s a x → Around s a y
around_sibling e (next k) = next (sym e ∙ k)
around_sibling e (beyond k r) = beyond (sym e ∙ k) r

-- of two that are around one thing, one is around the other, or they are the same
around_both : {s : Store} {a b x : Owner} → Around s a x → Around s b x → From s a b ⊎ From s b a
around_both {s} {a} {b} (next k) (next k') = inl (inl (same_Some b a (sym k' ∙ k)))
around_both {s} {a} {b} (next k) (beyond {p = p} k' r) = inr (inr (subst (Around s b) (same_Some p a (sym k' ∙ k)) r))
around_both {s} {a} {b} (beyond {p = p} k r) (next k') = inl (inr (subst (Around s a) (same_Some p b (sym k ∙ k')) r))
around_both {s} {a} {b} (beyond {p = p} k r) (beyond {p = p'} k' r') = around_both r (subst (Around s b) (same_Some p' p (sym k' ∙ k)) r')

pub one_from_other : {s : Store} {a b x : Owner} → From s a x → From s b x → From s a b ⊎ From s b a
one_from_other {s} {a} {b} (inl e) q = inr (subst (From s b) e q)
one_from_other {s} {a} {b} (inr p) (inl e) = inl (inr (subst (Around s a) e p))
one_from_other (inr p) (inr q) = around_both p q

rank : Store → Owner → ℕ
rank s (of_op n) = 2 * n
rank s (of_block b) = 2 * op_around s b + 1

module _ (s : Store) (sd : Sound s) where
  -- what is next around a thing of the store is in the store, and of smaller rank
  up_smaller : (x p : Owner) → owner_exists s x ≡ true → up s x ≡ Some p → (owner_exists s p ≡ true) × (rank s p < rank s x)
  unfolding up rank owner_exists op_exists block_exists parent_exists op_after
  up_smaller (of_op n) p h e = go (parent_of s n) refl e
    where
      go : (q : Option ℕ) → parent_of s n ≡ q → option_map of_block q ≡ Some p → (owner_exists s p ≡ true) × (rank s p < 2 * n)
      go None f k = absurd (none-some p k)
      go (Some b) f k =
          let q : of_block b ≡ p = same_Some (of_block b) p k in
          let l : n < length s.ops = ltb-true _ _ h in
          let i : block_exists s b ≡ true = subst (λ (o : Option ℕ). parent_exists s o ≡ true) f (parent_in_lem s sd n l) in
          let a : op_after s n (Some b) ≡ true = subst (λ (o : Option ℕ). op_after s n o ≡ true) f (sd.op n l).later in
          let m : op_around s b < n = ltb-true _ _ a in
          subst (λ (w : Owner). (owner_exists s w ≡ true) × (rank s w < 2 * n)) q (i, omega arith)
  up_smaller (of_block b) p h e =
      let f : of_op (op_around s b) ≡ p = same_Some (of_op (op_around s b)) p e in
      subst (λ (w : Owner). (owner_exists s w ≡ true) × (rank s w < 2 * op_around s b + 1)) f
      (owner_op s sd (op_around s b) (around_in s sd b (ltb-true _ _ h)), omega arith)

  pub up_in_store : (x p : Owner) → owner_exists s x ≡ true → up s x ≡ Some p → owner_exists s p ≡ true
  up_in_store x p h e = (up_smaller x p h e).0

  around_in_store : {a x : Owner} → owner_exists s x ≡ true → Around s a x → owner_exists s a ≡ true
  around_in_store {a} {x} h (next e) = (up_smaller x a h e).0
  around_in_store {a} {x} h (beyond {p = p} e k) = around_in_store (up_smaller x p h e).0 k

  around_smaller : {a x : Owner} → owner_exists s x ≡ true → Around s a x → rank s a < rank s x
  around_smaller {a} {x} h (next e) = (up_smaller x a h e).1
  around_smaller {a} {x} h (beyond {p = p} e k) = let u = up_smaller x p h e in let v = around_smaller u.0 k in let w = u.1 in omega arith

  pub not_around_itself : {x : Owner} → owner_exists s x ≡ true → Around s x x → ⊥
  not_around_itself {x} h k = let v = around_smaller h k in omega arith

  -- a sibling is not around a thing
  pub siblings : {a b : Owner} → up s a ≡ up s b → owner_exists s a ≡ true → Around s b a → ⊥
  siblings {a} {b} e h (next k) =
      let v = up_smaller a b h k in
      let w = (up_smaller b b v.0 (sym e ∙ k)).1 in omega arith
  siblings {a} {b} e h (beyond {p = p} k r) =
      let v = up_smaller a p h k in
      let hb = around_in_store v.0 r in
      let w = (up_smaller b p hb (sym e ∙ k)).1 in
      let z = around_smaller v.0 r in omega arith

  pub same_branch : {a b x : Owner} → up s a ≡ up s b → owner_exists s x ≡ true → Around s a x → Around s b x → a ≡ b
  same_branch {a} {b} {x} e h (next k) (next k') = same_Some a b (sym k ∙ k')
  same_branch {a} {b} {x} e h (next k) (beyond {p = p} k' r) =
      let q : p ≡ a = same_Some p a (sym k' ∙ k) in
      absurd (siblings e (up_smaller x a h k).0 (subst (Around s b) q r))
  same_branch {a} {b} {x} e h (beyond {p = p} k r) (next k') =
      let q : p ≡ b = same_Some p b (sym k ∙ k') in
      absurd (siblings (sym e) (up_smaller x b h k').0 (subst (Around s a) q r))
  same_branch {a} {b} {x} e h (beyond {p = p} k r) (beyond {p = p'} k' r') =
      same_branch e (up_smaller x p h k).0 r (subst (Around s b) (same_Some p' p (sym k' ∙ k)) r')

  pub same_from : {a b x : Owner} → up s a ≡ up s b → owner_exists s x ≡ true → From s a x → From s b x → a ≡ b
  same_from {a} {b} {x} e h (inl p) (inl q) = sym p ∙ q
  same_from {a} {b} {x} e h (inl p) (inr q) = absurd (siblings e (subst (λ (w : Owner). owner_exists s w ≡ true) p h) (subst (Around s b) p q))
  same_from {a} {b} {x} e h (inr p) (inl q) = absurd (siblings (sym e) (subst (λ (w : Owner). owner_exists s w ≡ true) q h) (subst (Around s a) q p))
  same_from {a} {b} {x} e h (inr p) (inr q) = same_branch e h p q
