-- How many regions may be entered makes no difference to an operation's size and nesting, where they are as many as its depth leaves. Assumes
-- nothing.
use Prim.Native.Nat.{ℕ, zero, suc, ◌-◌, ◌≤◌, max}
use native.Mathlib.Omega.{arith}
use mathlib.Core.Bool.{true}
use mathlib.Core.List.{List, [], ◌∷◌, Memᴰ, map}
use mathlib.Core.Path.{◌≡◌, refl, sym, ap, ap₂, subst}
use Rattle.rules.specs.Lists.{sum}
use Rattle.rules.specs.Store.{Store, parent_of, max_nesting, sound}
use Rattle.rules.specs.Fragments.{ops_inside}
use Rattle.rules.specs.Extents.{deepest, op_nesting}
use Rattle.rules.proofs.Walking.Levels.{Leaves, inside_leaves}
use Rattle.rules.proofs.Extents.Deepest.{deepest_least}
use Rattle.rules.proofs.Copying.Renumbered.{map_same}
use Rattle.fragments.specs.Sizes.{op_size, ops_size, ops_nesting, LevelsLeft}

pub deepest_same : (f g : ℕ → ℕ) (xs : List ℕ) → ((x : ℕ) → Memᴰ x xs → f x ≡ g x) → deepest f xs ≡ deepest g xs
unfolding deepest
deepest_same f g [] h = refl
deepest_same f g (x ∷ xs) h = ap₂ max (h x (Memᴰ.head refl)) (deepest_same f g xs (λ y m. h y (Memᴰ.tail m)))

pub deepest_sucs : (f : ℕ → ℕ) (xs : List ℕ) → deepest (λ (x : ℕ). suc (f x)) xs - 1 ≡ deepest f xs
unfolding deepest
deepest_sucs f [] = refl
deepest_sucs f (x ∷ xs) = omega (arith, deepest_sucs f xs)

pub nesting_least : (s : Store) (k n : ℕ) → op_nesting k s n ≤ k
unfolding op_nesting
nesting_least s zero n = omega arith
nesting_least s (suc k) n = deepest_least (λ (m : ℕ). suc (op_nesting k s m)) (suc k) (ops_inside s n) (λ m i. omega (arith, nesting_least s k m))

module _ (s : Store) (sd : sound s ≡ true) where
  -- none is inside one that leaves no levels
  pub none_inside : (n : ℕ) → Leaves s max_nesting (parent_of s n) 0 → ops_inside s n ≡ []
  none_inside n h = none (ops_inside s n) (λ m i. let w = inside_leaves s sd n 0 h m i in let e : 0 ≡ suc w.0 = w.2 in omega arith)
    where
      none : (xs : List ℕ) → ((m : ℕ) → Memᴰ m xs → ⊥) → xs ≡ []
      none [] h = refl
      none (x ∷ xs) h = absurd (h x (Memᴰ.head refl))

  -- what is next inside an operation has one level less, and there is none where none is left
  pub size_inside : (k n : ℕ) → LevelsLeft s n k → suc (ops_size (k - 1) s (ops_inside s n)) ≡ op_size k s n
  unfolding op_size ops_size sum
  size_inside zero n h = ap (λ (xs : List ℕ). suc (sum (map (op_size (0 - 1) s) xs))) (none_inside n h)
  size_inside (suc k) n h =
      let e : k ≡ suc k - 1 = omega arith in
      ap (λ (j : ℕ). suc (sum (map (op_size j s) (ops_inside s n)))) (sym e)

  pub nesting_inside : (k n : ℕ) → LevelsLeft s n k → ops_nesting (k - 1) s (ops_inside s n) ≡ op_nesting k s n
  unfolding op_nesting ops_nesting deepest
  nesting_inside zero n h = ap (ops_nesting (0 - 1) s) (none_inside n h)
  nesting_inside (suc k) n h =
      let e : k ≡ suc k - 1 = omega arith in
      ap (λ (j : ℕ). deepest (λ (m : ℕ). suc (op_nesting j s m)) (ops_inside s n)) (sym e)

  pub size_enough : (k i j n : ℕ) → Leaves s max_nesting (parent_of s n) j → j ≤ k → j ≤ i → op_size k s n ≡ op_size i s n
  unfolding op_size sum
  size_enough zero zero j n h below_k below_i = refl
  size_enough zero (suc i) j n h below_k below_i =
      let e : ops_inside s n ≡ [] = none_inside n (subst (Leaves s max_nesting (parent_of s n)) (omega arith) h) in
      sym (ap (λ (xs : List ℕ). suc (sum (map (op_size i s) xs))) e)
  size_enough (suc k) zero j n h below_k below_i =
      let e : ops_inside s n ≡ [] = none_inside n (subst (Leaves s max_nesting (parent_of s n)) (omega arith) h) in
      ap (λ (xs : List ℕ). suc (sum (map (op_size k s) xs))) e
  size_enough (suc k) (suc i) j n h below_k below_i =
      ap (λ (xs : List ℕ). suc (sum xs))
      (map_same (op_size k s) (op_size i s) (ops_inside s n)
      (λ m m∈. let w = inside_leaves s sd n j h m m∈ in
      let e : j ≡ suc w.0 = w.2 in
      size_enough k i w.0 m w.1 (omega arith) (omega arith)))

  pub nesting_enough : (k i j n : ℕ) → Leaves s max_nesting (parent_of s n) j → j ≤ k → j ≤ i → op_nesting k s n ≡ op_nesting i s n
  unfolding op_nesting deepest
  nesting_enough zero zero j n h below_k below_i = refl
  nesting_enough zero (suc i) j n h below_k below_i =
      let e : ops_inside s n ≡ [] = none_inside n (subst (Leaves s max_nesting (parent_of s n)) (omega arith) h) in
      sym (ap (deepest (λ (m : ℕ). suc (op_nesting i s m))) e)
  nesting_enough (suc k) zero j n h below_k below_i =
      let e : ops_inside s n ≡ [] = none_inside n (subst (Leaves s max_nesting (parent_of s n)) (omega arith) h) in
      ap (deepest (λ (m : ℕ). suc (op_nesting k s m))) e
  nesting_enough (suc k) (suc i) j n h below_k below_i =
      deepest_same (λ (m : ℕ). suc (op_nesting k s m)) (λ (m : ℕ). suc (op_nesting i s m)) (ops_inside s n)
      (λ m m∈. let w = inside_leaves s sd n j h m m∈ in
      let e : j ≡ suc w.0 = w.2 in
      ap (λ (d : ℕ). suc d) (nesting_enough k i w.0 m w.1 (omega arith) (omega arith)))
