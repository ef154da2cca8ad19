-- What stands in a child list: numbers that exist, whose own record names the owner; and no number twice. Assumes nothing.
use Prim.Native.Nat.{ℕ, suc, ◌+◌, ◌<◌}
use native.Mathlib.Nat.{zero-add}
use native.Mathlib.Omega.{arith}
use mathlib.Core.Bool.{Bool, true, false, cond}
use mathlib.Core.List.Memᴰ
use mathlib.Core.List.{List, [], ◌∷◌, Memᴰ}
use mathlib.Core.Logic.{⊎_elim}
use Rattle.std.specs.Prelude.{Option, None, Some}
use mathlib.Core.Path.{◌≡◌, refl, sym, subst, ◌∙◌, ap}
use borrow.Author.Tests.{eqb-true}
use lib.Dec.{eqb}
use lib.ListN.{length, get_or}
use Rattle.rules.specs.Lists.{numbers_from, numbers_where}
use Rattle.rules.specs.Store.{Store, Op, Block, Value, no_op, no_block, no_value, op_at, block_at, value_at, parent_of, same_owner, is_parent, ops_of, blocks_of, regions_of, values_of}
use Rattle.rules.specs.declared.types.Owner.{Owner}
use Rattle.rules.specs.declared.types.Owner.TheVariants.{Op as of_op, Block as of_block}
use Rattle.rules.proofs.Basics.Tests.{clash}
use Rattle.rules.proofs.Basics.Distinct.{Distinct}

module _ {A : Type 0} (p : A → Bool) (d : A) where
  -- a place from n on, where the test passes
  pub record At (n : ℕ) (xs : List A) (v : ℕ) : Type 0 where
    pub place : ℕ
    pub from : v ≡ n + place
    pub inside : place < length xs
    pub passes : p (get_or xs place d) ≡ true

  pub numbers_at : (n : ℕ) (xs : List A) {v : ℕ} → Memᴰ v (numbers_from n p xs) → At n xs v
  unfolding numbers_from
  numbers_at n [] m = absurd (Memᴰ.not-nil m)
  numbers_at n (x ∷ xs) {v} m = go (p x) refl (λ k. numbers_at (suc n) xs k) m
    where
      next : At (suc n) xs v → At n (x ∷ xs) v
      next a =
          let e : v ≡ suc n + a.place = a.from in
          let l : a.place < length xs = a.inside in
          record { place = suc a.place; from = omega arith; inside = omega arith; passes = a.passes }

      first : p x ≡ true → v ≡ n → At n (x ∷ xs) v
      first e h = record { place = 0; from = omega arith; inside = omega arith; passes = e }

      go : (b : Bool) → p x ≡ b → (Memᴰ v (numbers_from (suc n) p xs) → At (suc n) xs v)
          → Memᴰ v (cond b (n ∷ numbers_from (suc n) p xs) (numbers_from (suc n) p xs)) → At n (x ∷ xs) v
      go true e rest k = ⊎_elim (first e) (λ m'. next (rest m')) (Memᴰ.cases_cons k)
      go false e rest k = next (rest k)

  numbers_distinct : (n : ℕ) (xs : List A) → Distinct (numbers_from n p xs)
  unfolding numbers_from
  numbers_distinct n [] = tt
  numbers_distinct n (x ∷ xs) = go (p x) (numbers_distinct (suc n) xs)
    where
      before : Memᴰ n (numbers_from (suc n) p xs) → ⊥
      before m = let a = numbers_at (suc n) xs m in let e : n ≡ suc n + a.place = a.from in omega arith

      go : (b : Bool) → Distinct (numbers_from (suc n) p xs) → Distinct (cond b (n ∷ numbers_from (suc n) p xs) (numbers_from (suc n) p xs))
      go true rest = (before, rest)
      go false rest = rest

  where_at : (xs : List A) {v : ℕ} → Memᴰ v (numbers_where p xs) → (v < length xs) × (p (get_or xs v d) ≡ true)
  unfolding numbers_where
  where_at xs {v} m =
      let a = numbers_at 0 xs m in
      let e : v ≡ a.place = a.from ∙ zero-add a.place in
      let l : a.place < length xs = a.inside in
      (subst (λ (k : ℕ). k < length xs) (sym e) l, subst (λ (k : ℕ). p (get_or xs k d) ≡ true) (sym e) a.passes)

  where_distinct : (xs : List A) → Distinct (numbers_where p xs)
  unfolding numbers_where
  where_distinct xs = numbers_distinct 0 xs

pub same_owner_lem : (a b : Owner) → same_owner a b ≡ true → a ≡ b
unfolding same_owner
same_owner_lem (of_op a) (of_op b) e = ap of_op (eqb-true a b e)
same_owner_lem (of_op a) (of_block b) e = clash e refl
same_owner_lem (of_block a) (of_op b) e = clash e refl
same_owner_lem (of_block a) (of_block b) e = ap of_block (eqb-true a b e)

module _ (s : Store) where
  pub ops_in_lem : (b : ℕ) {n : ℕ} → Memᴰ n (ops_of s b) → (n < length s.ops) × (parent_of s n ≡ Some b)
  unfolding ops_of parent_of op_at is_parent
  ops_in_lem b {n} m = let a = where_at (λ (o : Op). is_parent b o.parent) no_op s.ops m in (a.0, parent (get_or s.ops n no_op).parent a.1)
    where
      parent : (q : Option ℕ) → is_parent b q ≡ true → q ≡ Some b
      parent None h = clash h refl
      parent (Some q) h = ap {B = Option ℕ} Some (eqb-true q b h)

  pub blocks_in_lem : (r : ℕ) {b : ℕ} → Memᴰ b (blocks_of s r) → (b < length s.blocks) × ((block_at s b).region ≡ r)
  unfolding blocks_of block_at
  blocks_in_lem r {b} m = let a = where_at (λ (o : Block). eqb o.region r) no_block s.blocks m in (a.0, eqb-true _ r a.1)

  pub regions_in_lem : (n : ℕ) {r : ℕ} → Memᴰ r (regions_of s n) → (r < length s.regions) × (get_or s.regions r 0 ≡ n)
  unfolding regions_of
  regions_in_lem n {r} m = let a = where_at (λ (o : ℕ). eqb o n) 0 s.regions m in (a.0, eqb-true _ n a.1)

  pub values_in_lem : (w : Owner) {v : ℕ} → Memᴰ v (values_of s w) → (v < length s.values) × ((value_at s v).owner ≡ w)
  unfolding values_of value_at
  values_in_lem w {v} m = let a = where_at (λ (o : Value). same_owner o.owner w) no_value s.values m in (a.0, same_owner_lem (get_or s.values v no_value).owner w a.1)

  pub ops_distinct : (b : ℕ) → Distinct (ops_of s b)
  unfolding ops_of
  ops_distinct b = where_distinct (λ (o : Op). is_parent b o.parent) no_op s.ops

  pub blocks_distinct : (r : ℕ) → Distinct (blocks_of s r)
  unfolding blocks_of
  blocks_distinct r = where_distinct (λ (o : Block). eqb o.region r) no_block s.blocks

  pub regions_distinct : (n : ℕ) → Distinct (regions_of s n)
  unfolding regions_of
  regions_distinct n = where_distinct (λ (o : ℕ). eqb o n) 0 s.regions

  pub values_distinct : (w : Owner) → Distinct (values_of s w)
  unfolding values_of
  values_distinct w = where_distinct (λ (o : Value). same_owner o.owner w) no_value s.values
