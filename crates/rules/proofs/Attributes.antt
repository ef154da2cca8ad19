-- Lists of attributes by rising key are equal as lists exactly when they are as many and each of the one stands in the other: a list
-- that rises holds no more of another than that has, and if as many, then in its order. Assumes nothing.
use Prim.Native.Nat.{ℕ, ◌≤◌, ◌<◌}
use native.Mathlib.Omega.{arith}
use mathlib.Core.Bool.{Bool, true, false, cond}
use mathlib.Core.List.Memᴰ
use mathlib.Core.List.{List, [], ◌∷◌, Memᴰ}
use mathlib.Core.Logic.{◌↔◌, ◌⊎◌, inl, inr, ⊎_elim}
use mathlib.Core.Path.{◌≡◌, refl, ap, subst}
use borrow.Author.Tests.{ltb-true, lt-ltb}
use lib.Dec.{ltb}
use lib.ListN.{length}
use Rattle.std.specs.List.{list_any, filter}
use Rattle.rules.specs.Lists.{same_list}
use Rattle.rules.specs.Store.{keys_rise, keys_rise_after}
use Rattle.rules.specs.declared.types.Attribute.{Attribute}
use Rattle.rules.specs.Shells.{unignored, same_attribute}
use Rattle.rules.specs.EqualityLaws.{SameByKey, UnignoredSame}
use Rattle.rules.proofs.Basics.Tests.{and_left, and_right, and_both, or_cases, or_left, or_right, all_at, all_of, clash}
use Rattle.rules.proofs.Soundness.KeptAttributes.{rises_behind}
use Rattle.rules.proofs.Form.SameShells.{attribute_same, attributes_same}

module _ {A : Type 0} (p : A → A → Bool) (same : (a b : A) → (p a b ≡ true) ↔ (a ≡ b)) where
  any_same : (a : A) (ys : List A) → (list_any (p a) ys ≡ true) ↔ Memᴰ a ys
  any_same a [] = (λ h. clash h refl, λ m. absurd (Memᴰ.not-nil m))
  any_same a (y ∷ ys) = (
    λ h. ⊎_elim (λ t. Memᴰ.head ((same a y).0 t)) (λ t. Memᴰ.tail ((any_same a ys).0 t)) (or_cases (p a y) (list_any (p a) ys) h),
    λ m. ⊎_elim (λ e. or_left _ (list_any (p a) ys) ((same a y).1 e)) (λ k. or_right (p a y) _ ((any_same a ys).1 k)) (Memᴰ.cases_cons m),
  )

-- ---- rising keys

rise_cons : (k : ℕ) (x : Attribute) (xs : List Attribute)
    → (keys_rise_after k (x ∷ xs) ≡ true) ↔ ((k < x.key) × (keys_rise_after x.key xs ≡ true))
unfolding keys_rise_after
rise_cons k x xs = (
  λ h. (ltb-true k x.key (and_left _ (keys_rise_after x.key xs) h), and_right (ltb k x.key) _ h),
  λ h. and_both _ _ (lt-ltb k x.key h.0) h.1,
)

rise_below : (j k : ℕ) → j ≤ k → (xs : List Attribute) → keys_rise_after k xs ≡ true → keys_rise_after j xs ≡ true
unfolding keys_rise_after
rise_below j k l [] h = refl
rise_below j k l (x ∷ xs) h = let c = (rise_cons k x xs).0 h in (rise_cons j x xs).1 (omega (arith, c.0), c.1)

rise_at : (k : ℕ) (xs : List Attribute) → keys_rise_after k xs ≡ true → (a : Attribute) → Memᴰ a xs → k < a.key
rise_at k [] h a m = absurd (Memᴰ.not-nil m)
rise_at k (x ∷ xs) h a m =
    let c = (rise_cons k x xs).0 h in
    ⊎_elim (λ e. let f : a.key ≡ x.key = ap (λ (y : Attribute). y.key) e in omega (arith, c.0))
    (λ m'. omega (arith, c.0, rise_at x.key xs c.1 a m')) (Memᴰ.cases_cons m)

module _ (p : Attribute → Bool) where
  filter_after : (k : ℕ) (xs : List Attribute) → keys_rise_after k xs ≡ true → keys_rise_after k (filter p xs) ≡ true
  unfolding keys_rise_after
  filter_after k [] h = refl
  filter_after k (x ∷ xs) h = go (p x) (filter_after x.key xs ((rise_cons k x xs).0 h).1)
    where
      go : (b : Bool) → keys_rise_after x.key (filter p xs) ≡ true → keys_rise_after k (cond b (x ∷ filter p xs) (filter p xs)) ≡ true
      go true rest = (rise_cons k x (filter p xs)).1 (((rise_cons k x xs).0 h).0, rest)
      go false rest = rise_below k x.key (omega (arith, ((rise_cons k x xs).0 h).0)) (filter p xs) rest

  pub filter_rises : (xs : List Attribute) → keys_rise xs ≡ true → keys_rise (filter p xs) ≡ true
  unfolding keys_rise
  filter_rises [] h = refl
  filter_rises (x ∷ xs) h = go (p x) (filter_after x.key xs h)
    where
      go : (b : Bool) → keys_rise_after x.key (filter p xs) ≡ true → keys_rise (cond b (x ∷ filter p xs) (filter p xs)) ≡ true
      go true rest = rest
      go false rest = rises_behind x.key (filter p xs) rest

-- ---- a rising list inside a rising list

Within : List Attribute → List Attribute → Type 0
Within xs ys = (a : Attribute) → Memᴰ a xs → Memᴰ a ys

-- it is no longer, and if as long, then the same
Fits : List Attribute → List Attribute → Type 0
Fits xs ys = (length xs ≤ length ys) × (length xs ≡ length ys → xs ≡ ys)

fits : (ys : List Attribute) → keys_rise ys ≡ true → (xs : List Attribute) → keys_rise xs ≡ true → Within xs ys → Fits xs ys
unfolding keys_rise Within Fits
fits [] hy [] hx sub = (omega arith, λ e. refl)
fits [] hy (x ∷ xs) hx sub = absurd (Memᴰ.not-nil (sub x (Memᴰ.head refl)))
fits (y ∷ ys) hy [] hx sub = (omega arith, λ e. absurd (omega arith))
fits (y ∷ ys) hy (x ∷ xs) hx sub = go (fits ys (rises_behind y.key ys hy)) (Memᴰ.cases_cons (sub x (Memᴰ.head refl)))
  where
    -- what is in the first list and has a larger key than y stands behind y in the second
    behind : (a : Attribute) → Memᴰ a (x ∷ xs) → y.key < a.key → Memᴰ a ys
    behind a m l =
        ⊎_elim (λ e. let f : a.key ≡ y.key = ap (λ (z : Attribute). z.key) e in absurd (omega arith)) (λ k. k) (Memᴰ.cases_cons (sub a m))

    go : ((zs : List Attribute) → keys_rise zs ≡ true → Within zs ys → Fits zs ys) → (x ≡ y) ⊎ Memᴰ x ys → Fits (x ∷ xs) (y ∷ ys)
    go rest (inl e) =
        let k : x.key ≡ y.key = ap (λ (z : Attribute). z.key) e in
        let w = rest xs (rises_behind x.key xs hx) (λ a m. behind a (Memᴰ.tail m) (omega (arith, rise_at x.key xs hx a m))) in
        (omega (arith, w.0), λ l. let es : xs ≡ ys = w.1 (omega arith) in cc)
    go rest (inr m) =
        let k : y.key < x.key = rise_at y.key ys hy x m in
        let w = rest (x ∷ xs) hx (λ a m'. behind a m' (⊎_elim
        (λ e. let f : a.key ≡ x.key = ap (λ (z : Attribute). z.key) e in omega arith)
        (λ n. omega (arith, rise_at x.key xs hx a n)) (Memᴰ.cases_cons m'))) in
        (omega (arith, w.0), λ l. absurd (omega (arith, w.0)))

-- ---- the two readings

same_by_key : (xs ys : List Attribute) → keys_rise xs ≡ true → keys_rise ys ≡ true
    → (same_list same_attribute xs ys ≡ true) ↔ SameByKey xs ys
unfolding Within Fits SameByKey
same_by_key xs ys hx hy = (
  λ h. let e : xs ≡ ys = (attributes_same xs ys).0 h in
      (ap length e, all_of _ xs (λ a m. (any_same same_attribute attribute_same a ys).1 (subst (λ (zs : List Attribute). Memᴰ a zs) e m))),
  λ h. (attributes_same xs ys).1
      ((fits ys hy xs hx (λ a m. (any_same same_attribute attribute_same a ys).0 (all_at _ xs h.1 m))).1 h.0),
)

pub unignored_same : UnignoredSame
unfolding UnignoredSame unignored
unignored_same ig xs ys hx hy = same_by_key _ _ (filter_rises _ xs hx) (filter_rises _ ys hy)
