-- Attributes after one is put: it goes before the first larger key and in the place of its own key, so keys rise still, and the list grows
-- only where the key is new. Assumes nothing.
use Prim.Native.Nat.{ℕ, suc, ◌+◌, ◌<◌, ◌≤◌}
use native.Mathlib.Omega.{arith}
use mathlib.Core.Bool.{Bool, true, false, cond, ◌||◌}
use mathlib.Core.List.{List, [], ◌∷◌}
use mathlib.Core.Logic.{◌⊎◌, inl, inr}
use mathlib.Core.Path.{◌≡◌, refl, ap}
use borrow.Author.Tests.{ltb-true, ltb-false, lt-ltb, leb-true, le-leb, eqb-true, eqb-false, ne_eqb}
use lib.Dec.{eqb, leb, ltb}
use lib.ListN.{length}
use Rattle.rules.specs.Lists.{every}
use Rattle.std.specs.List.{list_all}
use Rattle.rules.specs.Store.{keys_rise_after, keys_rise, attributes_hold, max_own_keys, max_attribute_kind}
use Rattle.rules.specs.declared.types.Attribute.{Attribute}
use Rattle.rules.specs.Building.{has_key, put_attribute}
use Rattle.rules.proofs.Basics.Tests.{and_left, and_right, and_both, or_cases, clash, passed, every_of}

pub none_hold : attributes_hold [] ≡ true
unfolding attributes_hold every keys_rise
none_hold = refl

pub keys_rise_lem : (bs : List Attribute) → attributes_hold bs ≡ true → keys_rise bs ≡ true
unfolding attributes_hold
keys_rise_lem bs h = (passed _ h).0

-- before the head, in its place, or behind it
pub put_cases {ℓ} : (P : List Attribute → Type ℓ) (a b : Attribute) (bs : List Attribute) → (a.key < b.key → P (a ∷ b ∷ bs))
    → (a.key ≡ b.key → P (a ∷ bs)) → (b.key < a.key → P (b ∷ put_attribute a bs)) → P (put_attribute a (b ∷ bs))
unfolding put_attribute
put_cases P a b bs f g h = go (ltb a.key b.key) (eqb a.key b.key) refl refl
  where
    go : (x y : Bool) → ltb a.key b.key ≡ x → eqb a.key b.key ≡ y → P (cond x (a ∷ b ∷ bs) (cond y (a ∷ bs) (b ∷ put_attribute a bs)))
    go true y l e = f (ltb-true _ _ l)
    go false true l e = g (eqb-true _ _ e)
    go false false l e = h (omega (arith, ltb-false a.key b.key l, eqb-false a.key b.key e))

put_after : (a : Attribute) (k : ℕ) (bs : List Attribute) → k < a.key → keys_rise_after k bs ≡ true → keys_rise_after k (put_attribute a bs) ≡ true
unfolding keys_rise_after put_attribute
put_after a k [] l h = and_both _ _ (lt-ltb k a.key l) refl
put_after a k (b ∷ bs) l h =
    let first : ltb k b.key ≡ true = and_left _ (keys_rise_after b.key bs) h in
    let rest : keys_rise_after b.key bs ≡ true = and_right (ltb k b.key) _ h in
    put_cases
    (λ (xs : List Attribute). keys_rise_after k xs ≡ true)
    a
    b
    bs
    (λ u. and_both _ _ (lt-ltb k a.key l) (and_both _ _ (lt-ltb a.key b.key u) rest))
    (λ e. and_both _ _ (lt-ltb k a.key l) (rw e rest))
    (λ u. and_both _ _ first (put_after a b.key bs u rest))

pub put_rises : (a : Attribute) (bs : List Attribute) → keys_rise bs ≡ true → keys_rise (put_attribute a bs) ≡ true
unfolding keys_rise keys_rise_after put_attribute
put_rises a [] h = refl
put_rises a (b ∷ bs) h =
    put_cases
    (λ (xs : List Attribute). keys_rise xs ≡ true)
    a
    b
    bs
    (λ u. and_both _ _ (lt-ltb a.key b.key u) h)
    (λ e. rw e h)
    (λ u. put_after a b.key bs u h)

put_kinds : (p : Attribute → Bool) (a : Attribute) (bs : List Attribute) → p a ≡ true → list_all p bs ≡ true → list_all p (put_attribute a bs) ≡ true
unfolding put_attribute
put_kinds p a [] e h = and_both _ _ e refl
put_kinds p a (b ∷ bs) e h =
    put_cases
    (λ (xs : List Attribute). list_all p xs ≡ true)
    a
    b
    bs
    (λ u. and_both _ _ e h)
    (λ u. and_both _ _ e (and_right (p b) _ h))
    (λ u. and_both (p b) _ (and_left (p b) (list_all p bs) h) (put_kinds p a bs e (and_right (p b) _ h)))

put_longer : (a : Attribute) (bs : List Attribute) → length (put_attribute a bs) ≤ length bs + 1
unfolding put_attribute
put_longer a [] = omega arith
put_longer a (b ∷ bs) = put_cases (λ (xs : List Attribute). length xs ≤ suc (length bs) + 1) a b bs (λ u. omega arith) (λ u. omega arith) (λ u. omega (arith, put_longer a bs))

-- no key at or below k where all are above it
pub not_below : (j k : ℕ) (bs : List Attribute) → j ≤ k → keys_rise_after k bs ≡ true → has_key j bs ≡ false
unfolding keys_rise_after has_key
not_below j k [] l h = refl
not_below j k (b ∷ bs) l h =
    let u : k < b.key = ltb-true _ _ (and_left _ (keys_rise_after b.key bs) h) in
    rw (ne_eqb b.key j (λ e. omega arith)) (not_below j b.key bs (omega arith) (and_right (ltb k b.key) _ h))

pub rises_behind : (k : ℕ) (bs : List Attribute) → keys_rise_after k bs ≡ true → keys_rise bs ≡ true
unfolding keys_rise_after keys_rise
rises_behind k [] h = refl
rises_behind k (b ∷ bs) h = and_right (ltb k b.key) _ h

pub put_replaced : (a : Attribute) (bs : List Attribute) → keys_rise bs ≡ true → has_key a.key bs ≡ true → length (put_attribute a bs) ≡ length bs
unfolding keys_rise has_key
put_replaced a [] h e = clash e refl
put_replaced a (b ∷ bs) h e =
    put_cases
    (λ (xs : List Attribute). length xs ≡ suc (length bs))
    a
    b
    bs
    (λ u. clash e (rw (ne_eqb b.key a.key (λ x. omega arith)) (not_below a.key b.key bs (omega arith) h)))
    (λ u. refl)
    (λ u. ap suc (put_replaced a bs (rises_behind b.key bs h) (rw (ne_eqb b.key a.key (λ x. omega arith)) at e)))

-- of m things there may be n; of those bs are some, and the test allows one more where the key is new
pub put_within : (a : Attribute) (bs : List Attribute) (m n : ℕ) → attributes_hold bs ≡ true → (has_key a.key bs || leb (m + 1) n) ≡ true → m ≤ n
    → m + length (put_attribute a bs) ≤ n + length bs
put_within a bs m n h t l = go (or_cases _ _ t)
  where
    go : (has_key a.key bs ≡ true) ⊎ (leb (m + 1) n ≡ true) → m + length (put_attribute a bs) ≤ n + length bs
    go (inl e) = omega (arith, put_replaced a bs (keys_rise_lem bs h) e)
    go (inr e) = omega (arith, put_longer a bs, leb-true (m + 1) n e)

pub put_holds : (a : Attribute) (bs : List Attribute) → leb a.kind max_attribute_kind ≡ true
    → (has_key a.key bs || leb (length bs + 1) max_own_keys) ≡ true → attributes_hold bs ≡ true → attributes_hold (put_attribute a bs) ≡ true
unfolding attributes_hold
put_holds a bs k t h =
    let p = passed _ h in
    every_of _ (
      put_rises a bs p.0,
      (le-leb (length (put_attribute a bs)) max_own_keys (omega (arith, put_within a bs (length bs) max_own_keys h t (leb-true _ _ p.1.0))), (put_kinds _ a bs k p.1.1.0, tt)),
    )
