-- Lists in which nothing stands twice, and lists that are put together from lists. Assumes nothing.
use Prim.Native.Nat.{ℕ}
use mathlib.Core.List.Memᴰ
use mathlib.Core.List.{List, [], ◌∷◌, ◌++◌, map, Memᴰ, append_assoc}
use mathlib.Core.Logic.{◌⊎◌, inl, inr, ⊎_elim}
use mathlib.Core.Path.{◌≡◌, refl, sym, ap, ap₂, ◌∙◌}
use Rattle.std.specs.List.{flat_map}
use Rattle.rules.specs.Fragments.{Disjoint}

module _ {A : Type 0} where
  abbrev pub Distinct : List A → Type 0
  Distinct [] = Unit {0}
  Distinct (x ∷ xs) = (Memᴰ x xs → ⊥) × Distinct xs

  pub distinct_append : (xs ys : List A) → Distinct xs → Distinct ys → Disjoint xs ys → Distinct (xs ++ ys)
  distinct_append [] ys dx dy apart = dy
  distinct_append (x ∷ xs) ys dx dy apart = (
    λ m. ⊎_elim dx.0 (λ k. apart x (Memᴰ.head refl) k) (Memᴰ.append_cases xs m),
    distinct_append xs ys dx.1 dy (λ y m k. apart y (Memᴰ.tail m) k),
  )

  pub distinct_left : (xs ys : List A) → Distinct (xs ++ ys) → Distinct xs
  distinct_left [] ys d = tt
  distinct_left (x ∷ xs) ys d = (λ m. d.0 (Memᴰ.append_left ys m), distinct_left xs ys d.1)

module _ {A B : Type 0} where
  pub mem_concat_map : (f : A → List B) (xs : List A) {y : B} → Memᴰ y (flat_map f xs) → (x : A) × Memᴰ x xs × Memᴰ y (f x)
  mem_concat_map f [] m = absurd (Memᴰ.not-nil m)
  mem_concat_map f (x ∷ xs) {y} m = go (λ k. mem_concat_map f xs k) (Memᴰ.append_cases (f x) m)
    where
      go : (Memᴰ y (flat_map f xs) → (z : A) × Memᴰ z xs × Memᴰ y (f z)) → Memᴰ y (f x) ⊎ Memᴰ y (flat_map f xs)
          → (z : A) × Memᴰ z (x ∷ xs) × Memᴰ y (f z)
      go rest (inl k) = (x, Memᴰ.head refl, k)
      go rest (inr k) = let w = rest k in (w.0, Memᴰ.tail w.1, w.2)

  -- the parts are distinct, and what stands in two of them tells that they are the same
  pub distinct_concat_map : (f : A → List B) (xs : List A) → Distinct xs → ((x : A) → Memᴰ x xs → Distinct (f x))
      → ((x x' : A) → Memᴰ x xs → Memᴰ x' xs → (y : B) → Memᴰ y (f x) → Memᴰ y (f x') → x ≡ x')
      → Distinct (flat_map f xs)
  distinct_concat_map f [] d parts same = tt
  distinct_concat_map f (x ∷ xs) d parts same =
      distinct_append (f x) (flat_map f xs) (parts x (Memᴰ.head refl))
      (distinct_concat_map f xs d.1 (λ z m. parts z (Memᴰ.tail m)) (λ z z' m m'. same z z' (Memᴰ.tail m) (Memᴰ.tail m')))
      (λ y k l. let w = mem_concat_map f xs l in
      d.0 (Memᴰ.cast (same x w.0 (Memᴰ.head refl) (Memᴰ.tail w.1) y k w.2) w.1))

  -- without a common entry, where what stands in two parts tells that they are the same
  pub apart_concat_map : (f : A → List B) (xs ys : List A) → ((x x' : A) (z : B) → Memᴰ z (f x) → Memᴰ z (f x') → x ≡ x')
      → Disjoint xs ys → Disjoint (flat_map f xs) (flat_map f ys)
  apart_concat_map f xs ys same apart z m k =
      let v = mem_concat_map f xs m in
      let w = mem_concat_map f ys k in
      apart w.0 (Memᴰ.cast (sym (same v.0 w.0 z v.2 w.2)) v.1) w.1

  -- mapped by a function that tells its arguments apart
  pub distinct_map : (f : A → B) (xs : List A) → Distinct xs → ((x x' : A) → f x ≡ f x' → x ≡ x') → Distinct (map f xs)
  distinct_map f [] d inj = tt
  distinct_map f (x ∷ xs) d inj =
      (λ m. let w = Memᴰ.of_map f xs m in d.0 (Memᴰ.cast (sym (inj w.0 x w.2)) w.1), distinct_map f xs d.1 inj)

-- ---- lists of lists

module _ {A B : Type 0} where
  pub concat_map_append : (f : A → List B) (xs ys : List A) → flat_map f (xs ++ ys) ≡ flat_map f xs ++ flat_map f ys
  concat_map_append f [] ys = refl
  concat_map_append f (x ∷ xs) ys = ap (λ (l : List B). f x ++ l) (concat_map_append f xs ys) ∙ sym (append_assoc (f x) (flat_map f xs) (flat_map f ys))

pub concat_map_concat_map : {A B C : Type 0} (f : B → List C) (g : A → List B) (xs : List A)
    → flat_map f (flat_map g xs) ≡ flat_map (λ (x : A). flat_map f (g x)) xs
concat_map_concat_map f g [] = refl
concat_map_concat_map {C = C} f g (x ∷ xs) = concat_map_append f (g x) (flat_map g xs) ∙ ap (λ (l : List C). flat_map f (g x) ++ l) (concat_map_concat_map f g xs)

-- two functions that give the same for each entry
pub concat_map_same : {A B : Type 0} (f g : A → List B) (xs : List A) → ((x : A) → Memᴰ x xs → f x ≡ g x) → flat_map f xs ≡ flat_map g xs
concat_map_same f g [] same = refl
concat_map_same f g (x ∷ xs) same = ap₂ ◌++◌ (same x (Memᴰ.head refl)) (concat_map_same f g xs (λ y m. same y (Memᴰ.tail m)))

pub concat_map_cong : {B : Type 0} (f g : ℕ → List B) → ((n : ℕ) → f n ≡ g n) → (xs : List ℕ) → flat_map f xs ≡ flat_map g xs
concat_map_cong f g same xs = concat_map_same f g xs (λ n m. same n)
