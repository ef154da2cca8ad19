-- Lists of which some entries are kept, and tests that some entry passes. Assumes nothing.
use Prim.Native.Nat.{suc, ◌+◌, ◌≤◌}
use native.Mathlib.Omega.{arith}
use mathlib.Core.Bool.{Bool, true, false, cond, not, ◌&&◌, ◌||◌}
use mathlib.Core.List.{List, [], ◌∷◌, ◌++◌, map, Memᴰ}
use mathlib.Core.Logic.{⊎_elim}
use mathlib.Core.Path.{◌≡◌, refl, ap, subst}
use lib.ListN.{length}
use Rattle.std.specs.List.{list_all, list_any, filter}
use Rattle.rules.proofs.Basics.Tests.{and_left, and_right, and_both, or_cases, or_left, or_right, or_false_left, or_false_right, or_neither, clash}

module _ {A : Type 0} where
  -- ---- some entry passes

  pub any_append : (p : A → Bool) (xs ys : List A) → list_any p (xs ++ ys) ≡ (list_any p xs || list_any p ys)
  any_append p [] ys = refl
  any_append p (x ∷ xs) ys = go (p x) (any_append p xs ys)
    where
      go : (b : Bool) → list_any p (xs ++ ys) ≡ (list_any p xs || list_any p ys) → (b || list_any p (xs ++ ys)) ≡ (b || list_any p xs || list_any p ys)
      go true e = refl
      go false e = e

  pub any_at : (p : A → Bool) {x : A} {xs : List A} → Memᴰ x xs → p x ≡ true → list_any p xs ≡ true
  any_at p (Memᴰ.head {x = y} {xs = ys} e) h = or_left (p y) (list_any p ys) (subst (λ (z : A). p z ≡ true) e h)
  any_at p (Memᴰ.tail {x = y} {xs = ys} m) h = or_right (p y) (list_any p ys) (any_at p m h)

  pub any_where : (p : A → Bool) (xs : List A) → list_any p xs ≡ true → (x : A) × Memᴰ x xs × (p x ≡ true)
  any_where p [] h = clash h refl
  any_where p (x ∷ xs) h =
      ⊎_elim (λ e. (x, Memᴰ.head refl, e)) (λ e. let w = any_where p xs e in (w.0, Memᴰ.tail w.1, w.2)) (or_cases (p x) (list_any p xs) h)

  -- none passes, and so none of those that are kept
  pub none_kept : (p q : A → Bool) (xs : List A) → list_any p xs ≡ false → list_any p (filter q xs) ≡ false
  none_kept p q [] h = refl
  none_kept p q (x ∷ xs) h = go (q x) (none_kept p q xs (or_false_right (p x) (list_any p xs) h))
    where
      go : (b : Bool) → list_any p (filter q xs) ≡ false → list_any p (cond b (x ∷ filter q xs) (filter q xs)) ≡ false
      go true r = or_neither (p x) (list_any p (filter q xs)) (or_false_left (p x) (list_any p xs) h) r
      go false r = r

  -- those that pass are not kept
  pub none_left : (p : A → Bool) (xs : List A) → list_any p (filter (λ (x : A). not (p x)) xs) ≡ false
  none_left p [] = refl
  none_left p (x ∷ xs) = go (p x) refl (none_left p xs)
    where
      kept : List A
      kept = filter (λ (y : A). not (p y)) xs

      go : (b : Bool) → p x ≡ b → list_any p kept ≡ false → list_any p (cond (not b) (x ∷ kept) kept) ≡ false
      go true e r = r
      go false e r = or_neither (p x) (list_any p kept) e r

  -- ---- entries are kept

  pub all_filter : (p q : A → Bool) (xs : List A) → list_all p xs ≡ true → list_all p (filter q xs) ≡ true
  all_filter p q [] h = refl
  all_filter p q (x ∷ xs) h = go (q x) (and_left (p x) (list_all p xs) h) (all_filter p q xs (and_right (p x) (list_all p xs) h))
    where
      go : (b : Bool) → p x ≡ true → list_all p (filter q xs) ≡ true → list_all p (cond b (x ∷ filter q xs) (filter q xs)) ≡ true
      go true a r = and_both (p x) (list_all p (filter q xs)) a r
      go false a r = r

  pub filter_append : (p : A → Bool) (xs ys : List A) → filter p (xs ++ ys) ≡ filter p xs ++ filter p ys
  filter_append p [] ys = refl
  filter_append p (x ∷ xs) ys = go (p x) (filter_append p xs ys)
    where
      go : (b : Bool) → filter p (xs ++ ys) ≡ filter p xs ++ filter p ys
          → cond b (x ∷ filter p (xs ++ ys)) (filter p (xs ++ ys)) ≡ cond b (x ∷ filter p xs) (filter p xs) ++ filter p ys
      go true e = ap (λ (l : List A). x ∷ l) e
      go false e = e

  -- all pass, and all are kept
  pub filter_whole : (p : A → Bool) (xs : List A) → list_all p xs ≡ true → filter p xs ≡ xs
  filter_whole p [] h = refl
  filter_whole p (x ∷ xs) h =
      rw (and_left (p x) (list_all p xs) h) (ap (λ (l : List A). x ∷ l) (filter_whole p xs (and_right (p x) (list_all p xs) h)))

  -- kept by two tests, one after the other
  pub filter_twice : (p q r : A → Bool) → ((x : A) → (q x && p x) ≡ r x) → (xs : List A) → filter p (filter q xs) ≡ filter r xs
  filter_twice p q r both [] = refl
  filter_twice p q r both (x ∷ xs) = go (q x) (r x) (both x) (filter_twice p q r both xs)
    where
      go : (b c : Bool) → (b && p x) ≡ c → filter p (filter q xs) ≡ filter r xs
          → filter p (cond b (x ∷ filter q xs) (filter q xs)) ≡ cond c (x ∷ filter r xs) (filter r xs)
      go true true e f = rw e (ap (λ (l : List A). x ∷ l) f)
      go true false e f = rw e f
      go false true e f = clash e refl
      go false false e f = f

  -- ---- how many are kept

  -- those that pass, and those that don't
  pub filter_parts : (p : A → Bool) (xs : List A) → length xs ≡ length (filter p xs) + length (filter (λ (x : A). not (p x)) xs)
  filter_parts p [] = omega arith
  filter_parts p (x ∷ xs) = go (p x) (filter_parts p xs)
    where
      others : List A
      others = filter (λ (y : A). not (p y)) xs

      go : (b : Bool) → length xs ≡ length (filter p xs) + length others
          → suc (length xs) ≡ length (cond b (x ∷ filter p xs) (filter p xs)) + length (cond (not b) (x ∷ others) others)
      go true e = omega arith
      go false e = omega arith

  -- one that passes is kept
  pub filter_some : (p : A → Bool) (xs : List A) → list_any p xs ≡ true → 1 ≤ length (filter p xs)
  filter_some p [] h = clash h refl
  filter_some p (x ∷ xs) h = go (p x) h (filter_some p xs)
    where
      go : (b : Bool) → (b || list_any p xs) ≡ true → (list_any p xs ≡ true → 1 ≤ length (filter p xs)) → 1 ≤ length (cond b (x ∷ filter p xs) (filter p xs))
      go true e r = omega arith
      go false e r = r e

-- ---- entries changed, one by one

module _ {A B : Type 0} where
  pub any_map : (p : B → Bool) (f : A → B) (xs : List A) → list_any p (map f xs) ≡ list_any (λ (x : A). p (f x)) xs
  any_map p f [] = refl
  any_map p f (x ∷ xs) = ap (λ (b : Bool). p (f x) || b) (any_map p f xs)

  pub filter_map : (p : B → Bool) (f : A → B) (xs : List A) → filter p (map f xs) ≡ map f (filter (λ (x : A). p (f x)) xs)
  filter_map p f [] = refl
  filter_map p f (x ∷ xs) = go (p (f x)) (filter_map p f xs)
    where
      kept : List A
      kept = filter (λ (y : A). p (f y)) xs

      go : (b : Bool) → filter p (map f xs) ≡ map f kept → cond b (f x ∷ filter p (map f xs)) (filter p (map f xs)) ≡ map f (cond b (x ∷ kept) kept)
      go true e = ap (λ (l : List B). f x ∷ l) e
      go false e = e
