-- The Rust compares attributes by their number and by looking each key up; keys rise, so a key that is looked up is found at most once,
-- and the lists are equal. Assumes nothing.
use Prim.Native.Nat.{ℕ, ◌≤◌, ◌<◌}
use native.Mathlib.Omega.{arith}
use mathlib.Core.Bool.{Bool, true, false, cond, not, ◌&&◌, ◌||◌}
use mathlib.Core.List.{List, [], ◌∷◌}
use Rattle.std.specs.Prelude.{Some}
use mathlib.Core.Path.{◌≡◌, refl, sym, ap, ◌∙◌}
use borrow.Author.Tests.{eqb-true, eq-eqb, ltb-true, le-leb, ne_eqb}
use lib.Dec.{eqb, ltb}
use lib.ListN.{length}
use Rattle.rules.specs.Lists.{same_bool, every, same_list}
use Rattle.std.specs.List.{list_all, list_any}
use Rattle.rules.specs.Store.{keys_rise, keys_rise_after}
use Rattle.rules.specs.declared.types.Attribute.{Attribute}
use Rattle.rules.specs.Shells.{unignored, same_attribute}
use Rattle.rules.specs.declared.types.Ignore.{Ignore}
use Rattle.rules.specs.Rust.{is_relevant, get, is_some_and_equal, attributes_eq, insert_by_key, sort_by_key}
use Rattle.rules.specs.EqualityLaws.{SameByKey, UnignoredSame}
use Rattle.rules.proofs.Basics.Tests.{and_left, and_right, and_both}
use Rattle.rules.proofs.Soundness.KeptAttributes.{rises_behind}
use Rattle.rules.proofs.Attributes.{unignored_same, filter_rises}

-- two tests that pass together are the same
pub bool_same : (a b : Bool) → (a ≡ true → b ≡ true) → (b ≡ true → a ≡ true) → a ≡ b
bool_same true b f g = sym (f refl)
bool_same false true f g = g refl
bool_same false false f g = refl

all_cong : {A : Type 0} (p q : A → Bool) (xs : List A) → ((x : A) → p x ≡ q x) → list_all p xs ≡ list_all q xs
all_cong p q [] h = refl
all_cong p q (x ∷ xs) h = rw (h x, all_cong p q xs h)

-- ---- one key looked up

-- none of larger keys is the same attribute
none_same : (a : Attribute) (k : ℕ) (ys : List Attribute) → a.key ≤ k → keys_rise_after k ys ≡ true → list_any (same_attribute a) ys ≡ false
unfolding keys_rise_after same_attribute every
none_same a k [] l h = refl
none_same a k (y ∷ ys) l h =
    let less : k < y.key = ltb-true _ _ (and_left _ (keys_rise_after y.key ys) h) in
    let no : eqb a.key y.key ≡ false = ne_eqb _ _ (λ e. let f : a.key ≡ y.key = e in absurd (omega arith)) in
    rw no (none_same a y.key ys (omega arith) (and_right (ltb k y.key) _ h))

found_same : (b : Bool) → b ≡ ((true && b) || false)
found_same true = refl
found_same false = refl

lookup_same : (a : Attribute) (ys : List Attribute) → keys_rise ys ≡ true → is_some_and_equal a (get a.key ys) ≡ list_any (same_attribute a) ys
unfolding get is_some_and_equal same_attribute every keys_rise
lookup_same a [] h = refl
lookup_same a (y ∷ ys) h = go (eqb a.key y.key) refl (lookup_same a ys (rises_behind y.key ys h))
  where
    go : (t : Bool) → eqb a.key y.key ≡ t → is_some_and_equal a (get a.key ys) ≡ list_any (same_attribute a) ys
        → is_some_and_equal a (cond t (Some y) (get a.key ys)) ≡ ((t && every (eqb a.kind y.kind ∷ eqb a.content y.content ∷ same_bool a.inherent y.inherent ∷ [])) || list_any (same_attribute a) ys)
    go true e rest =
        let k : a.key ≡ y.key = eqb-true a.key y.key e in
        rw (none_same a y.key ys (omega arith) h) (found_same (every (eqb a.kind y.kind ∷ eqb a.content y.content ∷ same_bool a.inherent y.inherent ∷ [])))
    go false e rest = rest

-- ---- all of them

cond_not : (e a : Bool) → cond (not e) false a ≡ (e && a)
cond_not true a = refl
cond_not false a = refl

pub attributes_agree : (ig : Ignore) (xs ys : List Attribute) → keys_rise xs ≡ true → keys_rise ys ≡ true
    → attributes_eq ig xs ys ≡ same_list same_attribute (unignored ig xs) (unignored ig ys)
unfolding attributes_eq is_relevant unignored UnignoredSame SameByKey
attributes_agree ig xs ys hx hy =
    let ls = unignored ig xs in
    let rs = unignored ig ys in
    let looked = all_cong _ (λ (a : Attribute). list_any (same_attribute a) rs) ls (λ a. lookup_same a rs (filter_rises _ ys hy)) in
    cond_not (eqb (length ls) (length rs)) _
    ∙ ap (λ (t : Bool). eqb (length ls) (length rs) && t) looked
    ∙ bool_same _ _
    (λ h. (unignored_same ig xs ys hx hy).1 (eqb-true _ _ (and_left _ (list_all (λ (a : Attribute). list_any (same_attribute a) rs) ls) h), and_right (eqb (length ls) (length rs)) _ h))
    (λ h. let p = (unignored_same ig xs ys hx hy).0 h in and_both _ _ (eq-eqb _ _ p.0) p.1)

-- ---- sorted by key

-- they are already, since keys rise
insert_first : (a : Attribute) (bs : List Attribute) → keys_rise_after a.key bs ≡ true → insert_by_key a bs ≡ a ∷ bs
unfolding insert_by_key keys_rise_after
insert_first a [] h = refl
insert_first a (b ∷ bs) h =
    let l : a.key < b.key = ltb-true _ _ (and_left _ (keys_rise_after b.key bs) h) in
    rw (le-leb a.key b.key (omega arith)) refl

pub sort_same : (bs : List Attribute) → keys_rise bs ≡ true → sort_by_key bs ≡ bs
unfolding sort_by_key keys_rise
sort_same [] h = refl
sort_same (b ∷ bs) h = ap (insert_by_key b) (sort_same bs (rises_behind b.key bs h)) ∙ insert_first b bs h
