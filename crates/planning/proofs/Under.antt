-- What is inside an operation of a sound store has a larger number, and of two operations that have one inside both, the later is inside
-- the earlier. Assumes nothing.
use Prim.Native.Nat.{ℕ, ◌+◌, ◌*◌, ◌<◌}
use native.Mathlib.Omega.{arith}
use mathlib.Core.Bool.{true}
use mathlib.Core.List.Memᴰ
use mathlib.Core.List.{Memᴰ}
use mathlib.Core.Logic.{◌⊎◌, inl, inr, ⊎_elim}
use Rattle.std.specs.Prelude.{Option, None, Some, option_map}
use Rattle.std.proofs.lemmas.Option.{same_Some, none-some}
use mathlib.Core.Path.{◌≡◌, refl, subst}
use borrow.Author.Tests.{ltb-true, lt-ltb}
use lib.ListN.{length}
use Rattle.rules.specs.Store.{Store, parent_of, op_around, op_after, owner_exists, op_exists, block_exists, sound}
use Rattle.rules.specs.declared.types.Owner.{Owner}
use Rattle.rules.specs.declared.types.Owner.TheVariants.{Op as of_op, Block as of_block}
use Rattle.rules.specs.Fragments.{exists, fragment_ops, defines_owners}
use Rattle.rules.specs.declared.types.Sort.TheVariants.{Op as op}
use Rattle.rules.specs.Laws.{In}
use Rattle.rules.proofs.Soundness.Sound.{Sound, facts}
use Rattle.rules.proofs.Form.Ancestors.{up, Around, next, beyond, From, up_in_store, one_from_other}
use Rattle.rules.proofs.Form.Roots.{Root}
use Rattle.rules.proofs.Form.Once.{owners_from, ops_here}
use Rattle.rules.proofs.Form.Owned as owned
use Rattle.rules.proofs.Copying.Within.{all_inside, roots_defined}

rank : Store → Owner → ℕ
rank s (of_op n) = 2 * n
rank s (of_block b) = 2 * op_around s b + 1

module _ (s : Store) (h : sound s ≡ true) where
  sd : Sound s
  sd = facts s h

  pub op_in : (n : ℕ) → n < length s.ops → In s op n
  unfolding exists op_exists
  op_in n l = lt-ltb n (length s.ops) l

  up_smaller : (x p : Owner) → owner_exists s x ≡ true → up s x ≡ Some p → rank s p < rank s x
  unfolding up rank owner_exists op_exists block_exists op_after
  up_smaller (of_op n) p e u = go (parent_of s n) refl u
    where
      go : (q : Option ℕ) → parent_of s n ≡ q → option_map of_block q ≡ Some p → rank s p < 2 * n
      go None f k = absurd (none-some p k)
      go (Some b) f k =
          let q : of_block b ≡ p = same_Some (of_block b) p k in
          let a : op_after s n (Some b) ≡ true = subst (λ (o : Option ℕ). op_after s n o ≡ true) f (sd.op n (ltb-true _ _ e)).later in
          let m : op_around s b < n = ltb-true _ _ a in
          subst (λ (w : Owner). rank s w < 2 * n) q (omega arith)
  up_smaller (of_block b) p e u =
      let f : of_op (op_around s b) ≡ p = same_Some (of_op (op_around s b)) p u in
      subst (λ (w : Owner). rank s w < 2 * op_around s b + 1) f (omega arith)

  around_smaller : {a x : Owner} → owner_exists s x ≡ true → Around s a x → rank s a < rank s x
  around_smaller {a} {x} e (next u) = up_smaller x a e u
  around_smaller {a} {x} e (beyond {p = p} u k) =
      let v = around_smaller (up_in_store s sd x p e u) k in
      let w = up_smaller x p e u in
      omega arith

  -- ---- of operations

  module _ (r n : ℕ) (l : r < length s.ops) (i : Memᴰ n (fragment_ops s op r)) where
    pub inside_here : n < length s.ops
    inside_here = ops_here s sd op r (op_in r l) n i

    -- it is the operation itself, or inside it
    pub inside_from : From s (of_op r) (of_op n)
    unfolding Root
    inside_from =
        let w = owners_from s sd op r (op_in r l) (of_op n) (owned.op_owned s op r i) in
        subst (λ (q : Owner). From s q (of_op n)) w.1.1 w.1.2

    exists_here : owner_exists s (of_op n) ≡ true
    exists_here = (owners_from s sd op r (op_in r l) (of_op n) (owned.op_owned s op r i)).0

    pub itself_or_after : (n ≡ r) ⊎ (r < n)
    unfolding rank
    itself_or_after =
        ⊎_elim
        (λ e. inl (let k : of_op n ≡ of_op r = e in cc))
        (λ a. inr (let k : 2 * r < 2 * n = around_smaller exists_here a in omega arith))
        inside_from

  pub itself_inside : (n : ℕ) → Memᴰ n (fragment_ops s op n)
  unfolding Root
  itself_inside n = owned.owned_op s op n (roots_defined s h op n (of_op n) refl)

  -- of things

  from : (r : ℕ) (w : Owner) → r < length s.ops → Memᴰ w (defines_owners s op r) → From s (of_op r) w
  unfolding Root
  from r w l i = let v = owners_from s sd op r (op_in r l) w i in subst (λ (q : Owner). From s q w) v.1.1 v.1.2

  under : (a c : ℕ) → c < length s.ops → From s (of_op a) (of_op c) → Memᴰ c (fragment_ops s op a)
  unfolding Root owner_exists op_exists
  under a c lc f =
      let root = roots_defined s h op a (of_op a) refl in
      owned.owned_op s op a (⊎_elim (λ e. Memᴰ.cast e root) (λ k. all_inside s h op a (lt-ltb c (length s.ops) lc) root k) f)

  -- two that have anything inside both
  pub one_around : (r q : ℕ) (w : Owner) → r < length s.ops → q < length s.ops → Memᴰ w (defines_owners s op r) → Memᴰ w (defines_owners s op q)
      → Memᴰ q (fragment_ops s op r) ⊎ Memᴰ r (fragment_ops s op q)
  one_around r q w lr lq i j =
      ⊎_elim (λ f. inl (under r q lq f)) (λ f. inr (under q r lr f)) (one_from_other (from r w lr i) (from q w lq j))

  pub inside_trans : (r q n : ℕ) → r < length s.ops → q < length s.ops → Memᴰ q (fragment_ops s op r) → Memᴰ n (fragment_ops s op q)
      → Memᴰ n (fragment_ops s op r)
  inside_trans r q n lr lq i j =
      let q_here = owned.op_owned s op r i in
      let n_here = owned.op_owned s op q j in
      owned.owned_op s op r
      (⊎_elim (λ e. Memᴰ.cast e q_here) (λ k. all_inside s h op r (owners_from s sd op q (op_in q lq) (of_op n) n_here).0 q_here k) (from q (of_op n) lq n_here))

  -- two operations that have one inside both: the one is inside the other
  pub one_inside : (r q n : ℕ) → r < length s.ops → q < length s.ops → Memᴰ n (fragment_ops s op r) → Memᴰ n (fragment_ops s op q)
      → Memᴰ q (fragment_ops s op r) ⊎ Memᴰ r (fragment_ops s op q)
  one_inside r q n lr lq i j = one_around r q (of_op n) lr lq (owned.op_owned s op r i) (owned.op_owned s op q j)
