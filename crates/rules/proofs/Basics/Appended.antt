-- Lists that grow at their end or change at one place: each function here goes entry by entry, so what it gives for the old entries stays.
-- Assumes nothing.
use Prim.Native.Nat.{ℕ, zero, suc, ◌+◌, ◌<◌}
use native.Mathlib.Nat.{add-zero, not-suc-le-zero, le_of_suc-le-suc}
use native.Mathlib.Omega.{arith}
use mathlib.Core.Bool.{Bool, true, false, cond}
use mathlib.Core.List.Memᴰ
use mathlib.Core.List.{List, [], ◌∷◌, ◌++◌, map, append-nil, Memᴰ}
use mathlib.Core.Logic.{◌⊎◌, inl, inr}
use mathlib.Core.Path.{◌≡◌, refl, ap, ◌∙◌}
use lib.ListN.{length, get_or, set, replicate}
use Rattle.std.specs.List.{list_all}
use Rattle.rules.specs.Lists.{sum, numbers_from, numbers_where, update_at}
use Rattle.rules.proofs.Basics.Tests.{and_left, and_right, and_both, all_at, all_of}

cond_append : (b : Bool) (n : ℕ) (l x y : List ℕ) → l ≡ x ++ y → cond b (n ∷ l) l ≡ cond b (n ∷ x) x ++ y
cond_append true n l x y e = cc
cond_append false n l x y e = e

module _ {A : Type 0} where
  -- ---- one after the other

  pub numbers_from_append : (n : ℕ) (p : A → Bool) (xs ys : List A) → numbers_from n p (xs ++ ys) ≡ numbers_from n p xs ++ numbers_from (n + length xs) p ys
  unfolding numbers_from
  numbers_from_append n p [] ys = rw add-zero refl
  numbers_from_append n p (x ∷ xs) ys = cond_append (p x) n _ _ _ (numbers_from_append (suc n) p xs ys ∙ ap (λ (k : ℕ). numbers_from (suc n) p xs ++ numbers_from k p ys) (omega arith))

  pub numbers_from_none : (n : ℕ) (p : A → Bool) (xs : List A) → ((x : A) → Memᴰ x xs → p x ≡ false) → numbers_from n p xs ≡ []
  unfolding numbers_from
  numbers_from_none n p [] h = refl
  numbers_from_none n p (x ∷ xs) h = rw (h x (Memᴰ.head refl)) (numbers_from_none (suc n) p xs (λ y m. h y (Memᴰ.tail m)))

  numbers_from_every : (n : ℕ) (p : A → Bool) (xs : List A) → ((x : A) → Memᴰ x xs → p x ≡ true) → length (numbers_from n p xs) ≡ length xs
  unfolding numbers_from
  numbers_from_every n p [] h = refl
  numbers_from_every n p (x ∷ xs) h = rw (h x (Memᴰ.head refl)) (ap suc (numbers_from_every (suc n) p xs (λ y m. h y (Memᴰ.tail m))))

  -- none of the appended passes: the places are those of before
  pub numbers_before : (p : A → Bool) (xs ys : List A) → ((y : A) → Memᴰ y ys → p y ≡ false) → numbers_where p (xs ++ ys) ≡ numbers_where p xs
  unfolding numbers_where
  numbers_before p xs ys h = numbers_from_append 0 p xs ys ∙ rw (numbers_from_none (0 + length xs) p ys h) (append-nil _)

  -- the appended pass, and none before: as many places as are appended
  pub numbers_new : (p : A → Bool) (xs ys : List A) → ((x : A) → Memᴰ x xs → p x ≡ false) → ((y : A) → Memᴰ y ys → p y ≡ true)
      → length (numbers_where p (xs ++ ys)) ≡ length ys
  unfolding numbers_where
  numbers_new p xs ys f h = rw (numbers_from_append 0 p xs ys, numbers_from_none 0 p xs f) (numbers_from_every (0 + length xs) p ys h)

  pub all_append : (p : A → Bool) (xs ys : List A) → list_all p xs ≡ true → list_all p ys ≡ true → list_all p (xs ++ ys) ≡ true
  all_append p xs ys f h = all_of p (xs ++ ys) (λ x m. pick x (Memᴰ.append_cases xs m))
    where
      pick : (x : A) → Memᴰ x xs ⊎ Memᴰ x ys → p x ≡ true
      pick x (inl m) = all_at p xs f m
      pick x (inr m) = all_at p ys h m

  -- a test that passes wherever another does
  pub all_imp : (p q : A → Bool) (xs : List A) → ((x : A) → p x ≡ true → q x ≡ true) → list_all p xs ≡ true → list_all q xs ≡ true
  all_imp p q xs f h = all_of q xs (λ x m. f x (all_at p xs h m))

  pub mem_replicate : (n : ℕ) (a x : A) → Memᴰ x (replicate n a) → x ≡ a
  mem_replicate zero a x m = absurd (Memᴰ.not-nil m)
  mem_replicate (suc n) a x m = pick (λ m'. mem_replicate n a x m') (Memᴰ.cases_cons m)
    where
      pick : (Memᴰ x (replicate n a) → x ≡ a) → (x ≡ a) ⊎ Memᴰ x (replicate n a) → x ≡ a
      pick f (inl e) = e
      pick f (inr m') = f m'

  pub mem_get_d : (xs : List A) (n : ℕ) (d : A) → n < length xs → Memᴰ (get_or xs n d) xs
  mem_get_d [] n d l = absurd (not-suc-le-zero l)
  mem_get_d (x ∷ xs) zero d l = Memᴰ.head refl
  mem_get_d (x ∷ xs) (suc n) d l = Memᴰ.tail (mem_get_d xs n d (le_of_suc-le-suc l))

  pub sum_append : (f : A → ℕ) (xs ys : List A) → sum (map f (xs ++ ys)) ≡ sum (map f xs) + sum (map f ys)
  unfolding sum
  sum_append f [] ys = omega arith
  sum_append f (x ∷ xs) ys = omega (arith, sum_append f xs ys)

  -- ---- a change at one place

  pub length_update : (g : A → A) (n : ℕ) (xs : List A) → length (update_at g n xs) ≡ length xs
  unfolding update_at
  length_update g n [] = refl
  length_update g zero (x ∷ xs) = refl
  length_update g (suc n) (x ∷ xs) = ap suc (length_update g n xs)

  -- what holds of the entry there and of the changed entry holds of the entry after the change
  pub get_d_update {κ} : (P : A → Type κ) (g : A → A) (n i : ℕ) (xs : List A) (d : A) → P (get_or xs i d) → (i ≡ n → P (g (get_or xs n d)))
      → P (get_or (update_at g n xs) i d)
  unfolding update_at
  get_d_update P g n i [] d p q = p
  get_d_update P g zero zero (x ∷ xs) d p q = q refl
  get_d_update P g zero (suc i) (x ∷ xs) d p q = p
  get_d_update P g (suc n) zero (x ∷ xs) d p q = p
  get_d_update P g (suc n) (suc i) (x ∷ xs) d p q = get_d_update P g n i xs d p (λ e. q (ap suc e))

  pub sum_update : (f : A → ℕ) (g : A → A) (n : ℕ) (xs : List A) (d : A) → n < length xs
      → sum (map f (update_at g n xs)) + f (get_or xs n d) ≡ sum (map f xs) + f (g (get_or xs n d))
  unfolding update_at sum
  sum_update f g n [] d l = absurd (not-suc-le-zero l)
  sum_update f g zero (x ∷ xs) d l = omega arith
  sum_update f g (suc n) (x ∷ xs) d l = omega (arith, sum_update f g n xs d (le_of_suc-le-suc l))

  pub all_set : (p : A → Bool) (xs : List A) (n : ℕ) (a : A) → list_all p xs ≡ true → p a ≡ true → list_all p (set xs n a) ≡ true
  all_set p [] n a h e = refl
  all_set p (x ∷ xs) zero a h e = and_both (p a) (list_all p xs) e (and_right (p x) (list_all p xs) h)
  all_set p (x ∷ xs) (suc n) a h e = and_both (p x) (list_all p (set xs n a)) (and_left (p x) (list_all p xs) h) (all_set p xs n a (and_right (p x) (list_all p xs) h) e)
