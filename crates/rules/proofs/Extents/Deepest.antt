-- The largest of what a function gives over a list: it is passed by no entry, and attained by one where there is one. Assumes nothing.
use Prim.Native.Nat.{ℕ, max, ◌≤◌}
use native.Mathlib.Decide.{dec_le}
use native.Mathlib.Omega.{arith}
use mathlib.Core.List.{List, [], ◌∷◌, ◌++◌, Memᴰ}
use mathlib.Core.Logic.{◌⊎◌, inl, inr}
use mathlib.Core.Path.{◌≡◌, refl, ap}
use Rattle.rules.specs.Extents.{deepest}

module _ (f : ℕ → ℕ) where
  pub deepest_append : (xs ys : List ℕ) → deepest f (xs ++ ys) ≡ max (deepest f xs) (deepest f ys)
  unfolding deepest
  deepest_append [] ys = omega arith
  deepest_append (x ∷ xs) ys = omega (arith, deepest_append xs ys)

  pub deepest_most : {x : ℕ} {xs : List ℕ} → Memᴰ x xs → f x ≤ deepest f xs
  unfolding deepest
  deepest_most (Memᴰ.head e) = omega (arith, ap f e)
  deepest_most (Memᴰ.tail m) = omega (arith, deepest_most m)

  -- it is no more than what none passes
  pub deepest_least : (n : ℕ) (xs : List ℕ) → ((x : ℕ) → Memᴰ x xs → f x ≤ n) → deepest f xs ≤ n
  unfolding deepest
  deepest_least n [] h = omega arith
  deepest_least n (x ∷ xs) h = omega (arith, h x (Memᴰ.head refl), deepest_least n xs (λ y m. h y (Memᴰ.tail m)))

  -- attained, or there is nothing
  abbrev pub Attained : List ℕ → Type 0
  Attained xs = ((x : ℕ) × Memᴰ x xs × (f x ≡ deepest f xs)) ⊎ ((xs ≡ []) × (deepest f xs ≡ 0))

  pub deepest_attained : (xs : List ℕ) → Attained xs
  unfolding deepest
  deepest_attained [] = inr (refl, refl)
  deepest_attained (x ∷ xs) = inl (go (dec_le (deepest f xs) (f x)) (deepest_attained xs))
    where
      go : Dec (deepest f xs ≤ f x) → Attained xs → (y : ℕ) × Memᴰ y (x ∷ xs) × (f y ≡ max (f x) (deepest f xs))
      go (yes l) a = (x, Memᴰ.head refl, omega arith)
      go (no g) (inl w) = let e : f w.0 ≡ deepest f xs = w.2 in (w.0, Memᴰ.tail w.1, omega arith)
      go (no g) (inr w) = let e : deepest f xs ≡ 0 = w.1 in absurd (g (omega arith))

  -- so it is the number that none passes and one attains
  pub deepest_is : (n : ℕ) (xs : List ℕ) → ((x : ℕ) → Memᴰ x xs → f x ≤ n) → ((x : ℕ) × Memᴰ x xs × (f x ≡ n)) ⊎ (n ≡ 0) → deepest f xs ≡ n
  deepest_is n xs h (inl w) = omega (arith, deepest_least n xs h, deepest_most w.1, w.2)
  deepest_is n xs h (inr e) = omega (arith, deepest_least n xs h)
