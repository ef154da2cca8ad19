-- Tests that pass, taken apart and put together. Assumes nothing.
use Prim.Native.Nat.{ℕ, zero, suc, ◌<◌}
use native.Mathlib.Nat.{not-suc-le-zero}
use native.Mathlib.Decide.{ℕ_discrete}
use native.Mathlib.Omega.{arith}
use mathlib.Core.Bool.{Bool, true, false, not, ◌&&◌, ◌||◌, true≢false, false≢true}
use mathlib.Core.List.{List, [], ◌∷◌, Memᴰ}
use mathlib.Core.Logic.{◌↔◌, ◌⊎◌, inl, inr}
use mathlib.Core.Path.{◌≡◌, refl, sym, subst, ◌∙◌}
use borrow.Author.Tests.{eqb-true, eq-eqb}
use lib.Dec.{eqb}
use Rattle.rules.specs.Lists.{every, same_bool, all_below, same_list}
use Rattle.std.specs.List.{list_all}

pub and_left : (a b : Bool) → (a && b) ≡ true → a ≡ true
and_left true b h = refl
and_left false b h = h

pub and_right : (a b : Bool) → (a && b) ≡ true → b ≡ true
and_right true b h = h
and_right false b h = absurd (false≢true h)

pub and_both : (a b : Bool) → a ≡ true → b ≡ true → (a && b) ≡ true
and_both true b p q = q
and_both false b p q = p

pub or_cases : (a b : Bool) → (a || b) ≡ true → (a ≡ true) ⊎ (b ≡ true)
or_cases true b h = inl refl
or_cases false b h = inr h

pub or_left : (a b : Bool) → a ≡ true → (a || b) ≡ true
or_left true b h = refl
or_left false b h = absurd (false≢true h)

pub or_right : (a b : Bool) → b ≡ true → (a || b) ≡ true
or_right true b h = refl
or_right false b h = h

pub or_false_left : (a b : Bool) → (a || b) ≡ false → a ≡ false
or_false_left true b h = h
or_false_left false b h = refl

pub or_false_right : (a b : Bool) → (a || b) ≡ false → b ≡ false
or_false_right true b h = absurd (true≢false h)
or_false_right false b h = h

pub or_neither : (a b : Bool) → a ≡ false → b ≡ false → (a || b) ≡ false
or_neither true b p q = p
or_neither false b p q = q

pub not_or : (a b : Bool) → (not a && not b) ≡ not (a || b)
not_or true b = refl
not_or false b = refl

-- a test passes or fails
-- two answers of yes or no are the same
pub bools_same : (a b : Bool) → (same_bool a b ≡ true) ↔ (a ≡ b)
unfolding same_bool
bools_same true true = (λ h. refl, λ e. refl)
bools_same true false = (λ h. absurd (false≢true h), λ e. sym e)
bools_same false true = (λ h. absurd (false≢true h), λ e. e)
bools_same false false = (λ h. refl, λ e. refl)

pub decided : (b : Bool) → (b ≡ true) ⊎ (b ≡ false)
decided true = inl refl
decided false = inr refl

pub clash {ℓ} : {A : Type ℓ} {b : Bool} → b ≡ true → b ≡ false → A
clash p q = absurd (true≢false (sym p ∙ q))

-- what `cc` shows of constructors that differ
pub impossible {ℓ} : {A : Type ℓ} → ◌≡◌ {A = ℕ} 0 1 → A
impossible h = absurd (omega arith)

-- numbers that differ do so the other way round
pub differ_back : (a b : ℕ) → eqb a b ≡ false → eqb b a ≡ false
differ_back a b h = go (decided (eqb b a))
  where
    go : (eqb b a ≡ true) ⊎ (eqb b a ≡ false) → eqb b a ≡ false
    go (inl e) = clash (eq-eqb a b (sym (eqb-true b a e))) h
    go (inr e) = e

-- all of a list of tests pass, one by one
abbrev pub Passed : List Bool → Type 0
Passed [] = Unit {0}
Passed (b ∷ bs) = (b ≡ true) × Passed bs

pub passed : (bs : List Bool) → every bs ≡ true → Passed bs
unfolding every
passed [] h = tt
passed (b ∷ bs) h = (and_left b (every bs) h, passed bs (and_right b (every bs) h))

pub every_of : (bs : List Bool) → Passed bs → every bs ≡ true
unfolding every
every_of [] p = refl
every_of (b ∷ bs) p = and_both b (every bs) p.0 (every_of bs p.1)

pub all_below_at : (n : ℕ) (p : ℕ → Bool) → all_below n p ≡ true → (i : ℕ) → i < n → p i ≡ true
unfolding all_below
all_below_at zero p h i l = absurd (not-suc-le-zero l)
all_below_at (suc n) p h i l = go (λ l'. all_below_at n p (and_right (p n) (all_below n p) h) i l') (ℕ_discrete i n)
  where
    go : (i < n → p i ≡ true) → Dec (i ≡ n) → p i ≡ true
    go f (yes e) = subst (λ (k : ℕ). p k ≡ true) (sym e) (and_left (p n) (all_below n p) h)
    go f (no ne) = f (omega arith)

pub all_below_of : (n : ℕ) (p : ℕ → Bool) → ((i : ℕ) → i < n → p i ≡ true) → all_below n p ≡ true
unfolding all_below
all_below_of zero p f = refl
all_below_of (suc n) p f = and_both (p n) (all_below n p) (f n (omega arith)) (all_below_of n p (λ i l. f i (omega arith)))

module _ {A : Type 0} where
  pub all_at : (p : A → Bool) {x : A} (xs : List A) → list_all p xs ≡ true → Memᴰ x xs → p x ≡ true
  all_at p xs h (Memᴰ.head {x = y} {xs = ys} e) = subst (λ (z : A). p z ≡ true) (sym e) (and_left (p y) (list_all p ys) h)
  all_at p xs h (Memᴰ.tail {x = y} {xs = ys} m) = all_at p ys (and_right (p y) (list_all p ys) h) m

  pub all_of : (p : A → Bool) (xs : List A) → ((x : A) → Memᴰ x xs → p x ≡ true) → list_all p xs ≡ true
  all_of p [] f = refl
  all_of p (x ∷ xs) f = and_both (p x) (list_all p xs) (f x (Memᴰ.head refl)) (all_of p xs (λ y m. f y (Memᴰ.tail m)))

  -- a test that tells equality does so of lists too
  module _ (p : A → A → Bool) (same : (a b : A) → (p a b ≡ true) ↔ (a ≡ b)) where
    pub list_same : (xs ys : List A) → (same_list p xs ys ≡ true) ↔ (xs ≡ ys)
    unfolding same_list
    list_same [] [] = (λ h. refl, λ h. refl)
    list_same [] (y ∷ ys) = (λ h. clash h refl, λ e. cc)
    list_same (x ∷ xs) [] = (λ h. clash h refl, λ e. cc)
    list_same (x ∷ xs) (y ∷ ys) = (
      λ h. let e : x ≡ y = (same x y).0 (and_left _ (same_list p xs ys) h) in
          let es : xs ≡ ys = (list_same xs ys).0 (and_right (p x y) _ h) in
          cc,
      λ h. let e : x ≡ y = cc in let es : xs ≡ ys = cc in and_both _ _ ((same x y).1 e) ((list_same xs ys).1 es),
    )

-- lists of numbers
pub numbers_same : (xs ys : List ℕ) → (same_list eqb xs ys ≡ true) ↔ (xs ≡ ys)
numbers_same = list_same eqb (λ a b. (eqb-true a b, eq-eqb a b))
