-- Attributes by rising key, one set and put back as it was, or taken away where there was none. Assumes nothing.
use Prim.Native.Nat.{ℕ, ◌<◌}
use native.Mathlib.Omega.{arith}
use mathlib.Core.Bool.{Bool, true, false, cond, ◌||◌}
use mathlib.Core.List.{List, [], ◌∷◌, Memᴰ}
use mathlib.Core.Path.{◌≡◌, refl, ap, ◌∙◌}
use borrow.Author.Tests.{eqb-true, eqb-false, eq-eqb, leb-true, leb-false}
use lib.Dec.{eqb, leb}
use Rattle.rules.specs.Store.{keys_rise, keys_rise_after}
use Rattle.rules.specs.declared.types.Attribute.{Attribute}
use Rattle.rules.specs.Building.{has_key, put_attribute}
use Rattle.rules.proofs.Basics.Tests.{or_left, or_right, or_false_left, or_false_right, clash}
use Rattle.rules.proofs.Soundness.KeptAttributes.{put_cases, not_below, rises_behind}
use Rattle.layout.specs.Journal.{without_key, attribute_or}

-- ---- where an attribute goes

put_there : (a b : Attribute) (bs : List Attribute) → a.key ≡ b.key → put_attribute a (b ∷ bs) ≡ a ∷ bs
put_there a b bs e =
    put_cases (λ (l : List Attribute). l ≡ a ∷ bs) a b bs (λ h. absurd (omega arith)) (λ h. refl) (λ h. absurd (omega arith))

put_behind : (a b : Attribute) (bs : List Attribute) → b.key < a.key → put_attribute a (b ∷ bs) ≡ b ∷ put_attribute a bs
put_behind a b bs l =
    put_cases (λ (xs : List Attribute). xs ≡ b ∷ put_attribute a bs) a b bs (λ h. absurd (omega arith)) (λ h. absurd (omega arith)) (λ h. refl)

pub has_put : (a : Attribute) (bs : List Attribute) → has_key a.key (put_attribute a bs) ≡ true
unfolding has_key put_attribute
has_put a [] = or_left _ false (eq-eqb a.key a.key refl)
has_put a (b ∷ bs) =
    put_cases (λ (l : List Attribute). has_key a.key l ≡ true) a b bs
    (λ h. or_left _ _ (eq-eqb a.key a.key refl))
    (λ h. or_left _ _ (eq-eqb a.key a.key refl))
    (λ h. or_right (eqb b.key a.key) _ (has_put a bs))

-- a key behind k is larger
key_behind : (j k : ℕ) (bs : List Attribute) → keys_rise_after k bs ≡ true → has_key j bs ≡ true → k < j
key_behind j k bs r h = go (leb j k) refl
  where
    go : (b : Bool) → leb j k ≡ b → k < j
    go true e = clash h (not_below j k bs (leb-true j k e) r)
    go false e = leb-false j k e

-- ---- the attribute of a key

abbrev Found : ℕ → List Attribute → Attribute → Type 0
Found k as' a = Memᴰ a as' × (a.key ≡ k)

pub found : (other : Attribute) (k : ℕ) (as' : List Attribute) → has_key k as' ≡ true → Found k as' (attribute_or other k as')
unfolding has_key attribute_or
found other k [] h = clash h refl
found other k (a ∷ as') h = go (eqb a.key k) refl h (found other k as')
  where
    go : (b : Bool) → eqb a.key k ≡ b → (b || has_key k as') ≡ true → (has_key k as' ≡ true → Found k as' (attribute_or other k as'))
        → Found k (a ∷ as') (cond b a (attribute_or other k as'))
    go true e g r = (Memᴰ.head refl, eqb-true a.key k e)
    go false e g r = let f = r g in (Memᴰ.tail f.0, f.1)

-- ---- set and put back

pub put_back : (other a : Attribute) (bs : List Attribute) → keys_rise bs ≡ true → has_key a.key bs ≡ true
    → put_attribute (attribute_or other a.key bs) (put_attribute a bs) ≡ bs
unfolding keys_rise has_key attribute_or
put_back other a [] r h = clash h refl
put_back other a (b ∷ bs) r h = go (eqb b.key a.key) refl h (put_back other a bs (rises_behind b.key bs r))
  where
    old : Attribute
    old = attribute_or other a.key bs

    go : (c : Bool) → eqb b.key a.key ≡ c → (c || has_key a.key bs) ≡ true
        → (has_key a.key bs ≡ true → put_attribute old (put_attribute a bs) ≡ bs)
        → put_attribute (cond c b old) (put_attribute a (b ∷ bs)) ≡ b ∷ bs
    go true e g rest =
        let same : b.key ≡ a.key = eqb-true b.key a.key e in
        let same' : a.key ≡ b.key = omega arith in
        ap (put_attribute b) (put_there a b bs same') ∙ put_there b a bs same
    go false e g rest =
        let l : b.key < a.key = key_behind a.key b.key bs r g in
        let same : old.key ≡ a.key = (found other a.key bs g).1 in
        let l' : b.key < old.key = omega arith in
        ap (put_attribute old) (put_behind a b bs l) ∙ put_behind old b (put_attribute a bs) l' ∙ ap (λ (l : List Attribute). b ∷ l) (rest g)

-- ---- set and taken away

gone : (a : Attribute) (bs : List Attribute) → without_key a.key (a ∷ bs) ≡ without_key a.key bs
unfolding without_key
gone a bs = rw (eq-eqb a.key a.key refl)

stays : (k : ℕ) (b : Attribute) (bs : List Attribute) → eqb b.key k ≡ false → without_key k (b ∷ bs) ≡ b ∷ without_key k bs
unfolding without_key
stays k b bs h = rw h

without_none : (k : ℕ) (bs : List Attribute) → has_key k bs ≡ false → without_key k bs ≡ bs
unfolding without_key has_key
without_none k [] h = refl
without_none k (b ∷ bs) h =
    stays k b bs (or_false_left (eqb b.key k) (has_key k bs) h)
    ∙ ap (λ (l : List Attribute). b ∷ l) (without_none k bs (or_false_right (eqb b.key k) (has_key k bs) h))

pub put_taken : (a : Attribute) (bs : List Attribute) → has_key a.key bs ≡ false → without_key a.key (put_attribute a bs) ≡ bs
unfolding without_key put_attribute has_key
put_taken a [] h = gone a []
put_taken a (b ∷ bs) h =
    let other : eqb b.key a.key ≡ false = or_false_left (eqb b.key a.key) (has_key a.key bs) h in
    put_cases (λ (l : List Attribute). without_key a.key l ≡ b ∷ bs) a b bs
    (λ l. gone a (b ∷ bs) ∙ without_none a.key (b ∷ bs) h)
    (λ e. absurd (omega (arith, eqb-false b.key a.key other)))
    (λ l.
    stays a.key b (put_attribute a bs) other
    ∙ ap (λ (l : List Attribute). b ∷ l) (put_taken a bs (or_false_right (eqb b.key a.key) (has_key a.key bs) h)))
