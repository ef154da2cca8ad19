-- Attributes by rising key, one key taken away: what stood before it and behind it stays, and the keys rise still. Assumes nothing.
use Prim.Native.Nat.{ℕ, zero, suc, ◌<◌, ◌≤◌}
use native.Mathlib.Nat.{not-suc-le-zero, le_of_suc-le-suc}
use native.Mathlib.Omega.{arith}
use mathlib.Core.Bool.{Bool, true, false, cond, not}
use mathlib.Core.List.{List, [], ◌∷◌, ◌++◌}
use mathlib.Core.Path.{◌≡◌, refl, ap}
use borrow.Author.Tests.{ltb-true, lt-ltb, leb-true, le-leb, eq-eqb, ne_eqb}
use lib.Dec.{eqb, ltb}
use lib.ListN.{length, get_or, take, drop}
use Rattle.std.specs.List.{list_all}
use Rattle.rules.specs.Store.{keys_rise_after, keys_rise, attributes_hold, max_own_keys}
use Rattle.rules.specs.declared.types.Attribute.{Attribute}
use Rattle.rules.proofs.Basics.Tests.{and_left, and_right, and_both, passed, every_of}
use Rattle.rules.proofs.Basics.Filtered.{all_filter, filter_parts}
use Rattle.rules.proofs.Soundness.KeptAttributes.{rises_behind}
use Rattle.layout.specs.Journal.{without_key}

-- ---- what stays

-- keys above k: the first of them, and the others
first_above : (k : ℕ) (b : Attribute) (bs : List Attribute) → keys_rise_after k (b ∷ bs) ≡ true → k < b.key
unfolding keys_rise_after
first_above k b bs h = ltb-true k b.key (and_left _ (keys_rise_after b.key bs) h)

others_above : (k : ℕ) (b : Attribute) (bs : List Attribute) → keys_rise_after k (b ∷ bs) ≡ true → keys_rise_after b.key bs ≡ true
unfolding keys_rise_after
others_above k b bs h = and_right (ltb k b.key) _ h

key_above : (k : ℕ) (bs : List Attribute) (p : ℕ) (d : Attribute) → keys_rise_after k bs ≡ true → p < length bs → k < (get_or bs p d).key
key_above k [] p d h l = absurd (not-suc-le-zero l)
key_above k (b ∷ bs) zero d h l = first_above k b bs h
key_above k (b ∷ bs) (suc p) d h l =
    let u : k < b.key = first_above k b bs h in
    omega (arith, key_above b.key bs p d (others_above k b bs h) (le_of_suc-le-suc l))

-- a key at or below k is not there, and none is taken
none_taken : (j k : ℕ) (bs : List Attribute) → j ≤ k → keys_rise_after k bs ≡ true → without_key j bs ≡ bs
unfolding without_key
none_taken j k [] l h = refl
none_taken j k (b ∷ bs) l h =
    let u : k < b.key = first_above k b bs h in
    rw (ne_eqb b.key j (λ e. omega arith)) (ap (λ (xs : List Attribute). b ∷ xs) (none_taken j b.key bs (omega arith) (others_above k b bs h)))

pub taken_there : (k : ℕ) (bs : List Attribute) (p : ℕ) (d : Attribute) → keys_rise bs ≡ true → p < length bs → (get_or bs p d).key ≡ k
    → without_key k bs ≡ take p bs ++ drop (suc p) bs
unfolding without_key keys_rise
taken_there k [] p d h l e = absurd (not-suc-le-zero l)
taken_there k (b ∷ bs) zero d h l e = rw (eq-eqb b.key k e) (none_taken k b.key bs (omega arith) h)
taken_there k (b ∷ bs) (suc p) d h l e =
    let u : b.key < (get_or bs p d).key = key_above b.key bs p d h (le_of_suc-le-suc l) in
    rw (ne_eqb b.key k (λ q. omega arith))
    (ap (λ (xs : List Attribute). b ∷ xs) (taken_there k bs p d (rises_behind b.key bs h) (le_of_suc-le-suc l) e))

-- ---- what is left holds

rises_lower : (j k : ℕ) (bs : List Attribute) → j ≤ k → keys_rise_after k bs ≡ true → keys_rise_after j bs ≡ true
unfolding keys_rise_after
rises_lower j k [] l h = refl
rises_lower j k (b ∷ bs) l h =
    let u : k < b.key = first_above k b bs h in
    and_both _ _ (lt-ltb j b.key (omega arith)) (others_above k b bs h)

left_above : (j k : ℕ) (bs : List Attribute) → keys_rise_after j bs ≡ true → keys_rise_after j (without_key k bs) ≡ true
unfolding without_key keys_rise_after
left_above j k [] h = refl
left_above j k (b ∷ bs) h = go (eqb b.key k) (left_above b.key k bs (others_above j b bs h))
  where
    above : j < b.key
    above = first_above j b bs h

    go : (t : Bool) → keys_rise_after b.key (without_key k bs) ≡ true → keys_rise_after j (cond (not t) (b ∷ without_key k bs) (without_key k bs)) ≡ true
    go true r = rises_lower j b.key (without_key k bs) (omega (arith, above)) r
    go false r = and_both _ _ (lt-ltb j b.key above) r

left_rises : (k : ℕ) (bs : List Attribute) → keys_rise bs ≡ true → keys_rise (without_key k bs) ≡ true
unfolding without_key keys_rise
left_rises k [] h = refl
left_rises k (b ∷ bs) h = go (eqb b.key k) (left_above b.key k bs h)
  where
    go : (t : Bool) → keys_rise_after b.key (without_key k bs) ≡ true → keys_rise (cond (not t) (b ∷ without_key k bs) (without_key k bs)) ≡ true
    go true r = rises_behind b.key (without_key k bs) r
    go false r = r

pub left_fewer : (k : ℕ) (bs : List Attribute) → length (without_key k bs) ≤ length bs
unfolding without_key
left_fewer k bs = omega (arith, filter_parts (λ (a : Attribute). not (eqb a.key k)) bs)

left_all : (p : Attribute → Bool) (k : ℕ) (bs : List Attribute) → list_all p bs ≡ true → list_all p (without_key k bs) ≡ true
unfolding without_key
left_all p k bs h = all_filter p _ bs h

pub left_holds : (k : ℕ) (bs : List Attribute) → attributes_hold bs ≡ true → attributes_hold (without_key k bs) ≡ true
unfolding attributes_hold
left_holds k bs h =
    let p = passed _ h in
    every_of _ (
      left_rises k bs p.0,
      (le-leb (length (without_key k bs)) max_own_keys (omega (arith, left_fewer k bs, leb-true (length bs) max_own_keys p.1.0)), (left_all _ k bs p.1.1.0, tt)),
    )
