-- Lists cut to a length, taken in parts, and changed at one place or entry by entry. Assumes nothing.
use Prim.Native.Nat.{ℕ, zero, suc, ◌+◌, ◌-◌, ◌≤◌, ◌<◌}
use native.Mathlib.Nat.{not-suc-le-zero, le_of_suc-le-suc}
use native.Mathlib.Omega.{arith}
use mathlib.Core.List.{List, [], ◌∷◌, ◌++◌, map, Memᴰ}
use mathlib.Core.Path.{◌≡◌, refl, sym, ap, ap₂, ◌∙◌}
use lib.ListN.{length, get_or, take, drop, length-take, take-append-drop}
use lib.Seq.{take-nil, get_or-take, drop-drop, drop-append-le, length-take-le}
use Rattle.rules.specs.Lists.{update_at}

module _ {ℓ} {A : Type ℓ} where
  -- ---- a change at one place

  pub take_update : (f : A → A) (n k : ℕ) (xs : List A) → take k (update_at f n xs) ≡ update_at f n (take k xs)
  unfolding update_at
  take_update f n zero xs = refl
  take_update f n (suc k) [] = refl
  take_update f zero (suc k) (x ∷ xs) = refl
  take_update f (suc n) (suc k) (x ∷ xs) = ap (λ (l : List A). x ∷ l) (take_update f n k xs)

  -- changed and changed back
  pub update_back : (f g : A → A) (n : ℕ) (xs : List A) (d : A) → (n < length xs → g (f (get_or xs n d)) ≡ get_or xs n d)
      → update_at g n (update_at f n xs) ≡ xs
  unfolding update_at
  update_back f g n [] d e = refl
  update_back f g zero (x ∷ xs) d e = ap (λ (y : A). y ∷ xs) (e (omega arith))
  update_back f g (suc n) (x ∷ xs) d e = ap (λ (l : List A). x ∷ l) (update_back f g n xs d (λ l. e (omega arith)))

  -- ---- cut to a length

  pub length_cut : (k : ℕ) (xs : List A) → length (take k xs) ≤ length xs
  length_cut k xs = omega (arith, length-take k xs)

  pub get_d_cut : (k i : ℕ) (xs : List A) (d : A) → i < length (take k xs) → get_or (take k xs) i d ≡ get_or xs i d
  get_d_cut k i xs d l = get_or-take k xs i d (omega (arith, length-take k xs))

  -- ---- parts

  pub drop_from : (n m : ℕ) (xs : List A) → n ≤ m → drop (m - n) (drop n xs) ≡ drop m xs
  drop_from n m xs l = let e : n + (m - n) ≡ m = omega arith in drop-drop (m - n) n xs ∙ ap (λ (k : ℕ). drop k xs) e

  pub drop_take : (n m : ℕ) (xs : List A) → n ≤ m → take (m - n) (drop n xs) ≡ drop n (take m xs)
  drop_take zero m xs l = let e : m - 0 ≡ m = omega arith in ap (λ (k : ℕ). take k xs) e
  drop_take (suc n) zero xs l = absurd (not-suc-le-zero l)
  drop_take (suc n) (suc m) [] l = take-nil (suc m - suc n)
  drop_take (suc n) (suc m) (x ∷ xs) l =
      let e : suc m - suc n ≡ m - n = omega arith in
      ap (λ (k : ℕ). take k (drop n xs)) e ∙ drop_take n m xs (le_of_suc-le-suc l)

  -- what stands from n on is what stands from n to m, and from m on
  pub drop_parts : (n m : ℕ) (xs : List A) → n ≤ m → m ≤ length xs → drop n xs ≡ drop n (take m xs) ++ drop m xs
  drop_parts n m xs l h =
      ap (drop n) (sym (take-append-drop m xs)) ∙ drop-append-le n (take m xs) (drop m xs) (omega (arith, length-take-le m xs h))

-- ---- entries changed, one by one

module _ {A B C : Type 0} where
  -- two ways, by entries that stand in the list
  pub map_through : (f : A → C) (h : B → C) (g : A → B) (xs : List A) → ((x : A) → Memᴰ x xs → f x ≡ h (g x)) → map f xs ≡ map h (map g xs)
  map_through f h g [] e = refl
  map_through f h g (x ∷ xs) e = ap₂ ◌∷◌ (e x (Memᴰ.head refl)) (map_through f h g xs (λ y m. e y (Memᴰ.tail m)))
