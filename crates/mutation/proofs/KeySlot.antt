-- Where a key belongs among an owner's attributes: the search through the slots stops at the place where the rules put the attribute, for both pass over the keys that are below. Assumes nothing.
use Prim.Native.Nat.{ℕ, zero, suc, ◌+◌, ◌<◌, ◌≤◌}
use native.Mathlib.Nat.{add-zero, not-suc-le-zero, le_of_suc-le-suc}
use native.Mathlib.Omega.{arith}
use mathlib.Core.Bool.{Bool, true, false}
use mathlib.Core.List.{List, [], ◌∷◌, ◌++◌}
use mathlib.Core.Path.{◌≡◌, refl, sym, ap, subst, ◌∙◌}
use borrow.Author.Tests.{ltb-true, ltb-false, lt-ltb, le-ltb, eqb-true, eq-eqb, ne_eqb}
use lib.Dec.{eqb, ltb}
use lib.ListN.{length, get_or, set, take, drop, length-append, length-drop}
use lib.Seq.{length-take-le}
use Rattle.rules.specs.Store.{keys_rise}
use Rattle.rules.specs.declared.types.Attribute.{Attribute}
use Rattle.rules.specs.declared.types.Owner.{Owner}
use Rattle.rules.specs.Building.{has_key, put_attribute}
use Rattle.rules.proofs.Basics.Tests.{and_left, and_right, and_both, or_left, or_right, clash}
use Rattle.rules.proofs.Soundness.KeptAttributes.{put_replaced}
use Rattle.layout.specs.Columns.{Cols, at, slot_key}
use Rattle.layout.specs.Reading.{slots_of, attribute_at, attributes_from}
use Rattle.layout.specs.Owners.{key_count}
use Rattle.layout.proofs.Tabulate.{length_tabulate, get_d_tabulate}
use Rattle.mutation.specs.SetWrites.{seek, slot_for, key_there}

-- of so many slots from slot i on, the first p have keys below this one, and the next has not
pub record Sought (C : Cols) (key i left p : ℕ) : Type 0 where
  pub slot : seek C key i left ≡ i + p
  pub fits : p ≤ left
  pub below : (q : ℕ) → q < p → at C slot_key (i + q) < key
  pub stops : p < left → key ≤ at C slot_key (i + p)

sought : (C : Cols) (key i left : ℕ) → (p : ℕ) × Sought C key i left p
unfolding seek
sought C key i zero = (0, record { slot = sym (add-zero i); fits = omega arith; below = λ q l. absurd (not-suc-le-zero l); stops = λ l. absurd (not-suc-le-zero l) })
sought C key i (suc left) = go (ltb (at C slot_key i) key) refl (sought C key (suc i) left)
  where
    go : (b : Bool) → ltb (at C slot_key i) key ≡ b → (p : ℕ) × Sought C key (suc i) left p → (p : ℕ) × Sought C key i (suc left) p
    go true e r =
        let p : ℕ = r.0 in
        let s : Sought C key (suc i) left p = r.1 in
        let one : (q : ℕ) → suc i + q ≡ i + suc q = λ q. omega arith in (
          suc p,
          record {
            slot = (rw e s.slot) ∙ one p;
            fits = omega arith;
            below = λ q l. step s q l;
            stops = λ l. subst (λ (k : ℕ). key ≤ at C slot_key k) (one p) (s.stops (omega arith));
          },
        )
      where
        step : Sought C key (suc i) left r.0 → (q : ℕ) → q < suc r.0 → at C slot_key (i + q) < key
        step s zero l = subst (λ (k : ℕ). at C slot_key k < key) (sym (add-zero i)) (ltb-true _ _ e)
        step s (suc q) l = subst (λ (k : ℕ). at C slot_key k < key) (omega arith) (s.below q (omega arith))
    go false e r =
        (0, record { slot = (rw e refl) ∙ sym (add-zero i); fits = omega arith; below = λ q l. absurd (not-suc-le-zero l); stops = λ l. subst (λ (k : ℕ). key ≤ at C slot_key k) (sym (add-zero i)) (ltb-false _ _ e) })

-- how many of an owner's keys are below this one
pub place : Cols → Owner → ℕ → ℕ
place C w key = (sought C key (slots_of w) (key_count C w)).0

pub place_found : (C : Cols) (w : Owner) (key : ℕ) → Sought C key (slots_of w) (key_count C w) (place C w key)
unfolding place
place_found C w key = (sought C key (slots_of w) (key_count C w)).1

-- ---- the rules' place is the same

module _ (a d : Attribute) where
  put_there : (xs : List Attribute) (p : ℕ) → p < length xs → ((q : ℕ) → q < p → (get_or xs q d).key < a.key) → (get_or xs p d).key ≡ a.key → put_attribute a xs ≡ set xs p a
  unfolding put_attribute
  put_there [] p l below e = absurd (not-suc-le-zero l)
  put_there (b ∷ bs) zero l below e = rw (le-ltb a.key b.key (omega arith), eq-eqb a.key b.key (sym e))
  put_there (b ∷ bs) (suc p) l below e =
      let u : b.key < a.key = below 0 (omega arith) in
      rw (le-ltb a.key b.key (omega arith), ne_eqb a.key b.key (λ z. omega arith))
      (ap (λ (ys : List Attribute). b ∷ ys) (put_there bs p (le_of_suc-le-suc l) (λ q m. below (suc q) (omega arith)) e))

  put_new : (xs : List Attribute) (p : ℕ) → p ≤ length xs → ((q : ℕ) → q < p → (get_or xs q d).key < a.key) → (p < length xs → a.key < (get_or xs p d).key) → put_attribute a xs ≡ take p xs ++ (a ∷ drop p xs)
  unfolding put_attribute
  put_new [] zero l below above = refl
  put_new [] (suc p) l below above = absurd (not-suc-le-zero l)
  put_new (b ∷ bs) zero l below above = rw (lt-ltb a.key b.key (above (omega arith)))
  put_new (b ∷ bs) (suc p) l below above =
      let u : b.key < a.key = below 0 (omega arith) in
      rw (le-ltb a.key b.key (omega arith), ne_eqb a.key b.key (λ z. omega arith))
      (ap (λ (ys : List Attribute). b ∷ ys) (put_new bs p (le_of_suc-le-suc l) (λ q m. below (suc q) (omega arith)) (λ m. above (omega arith))))

has_there : (key : ℕ) (xs : List Attribute) (p : ℕ) (d : Attribute) → p < length xs → (get_or xs p d).key ≡ key → has_key key xs ≡ true
unfolding has_key
has_there key [] p d l e = absurd (not-suc-le-zero l)
has_there key (b ∷ bs) zero d l e = or_left _ (has_key key bs) (eq-eqb b.key key e)
has_there key (b ∷ bs) (suc p) d l e = or_right (eqb b.key key) _ (has_there key bs p d (le_of_suc-le-suc l) e)

-- ---- over the columns

module _ (C : Cols) (w : Owner) where
  abbrev pub own : List Attribute
  own = attributes_from C (slots_of w) (key_count C w)

  own_length : length own ≡ key_count C w
  unfolding attributes_from
  own_length = length_tabulate (key_count C w) _

  own_key : (q : ℕ) (d : Attribute) → q < key_count C w → (get_or own q d).key ≡ at C slot_key (slots_of w + q)
  unfolding attributes_from attribute_at
  own_key q d l = ap (λ (b : Attribute). b.key) (get_d_tabulate (key_count C w) _ q d l)

  module _ (key : ℕ) where
    pub slot_found : slot_for C w key ≡ slots_of w + place C w key
    unfolding slot_for
    slot_found = (place_found C w key).slot

    pub there_within : key_there C w key ≡ true → place C w key < key_count C w
    unfolding key_there
    there_within t = omega (arith, slot_found, ltb-true (slot_for C w key) (slots_of w + key_count C w) (and_left _ (eqb (at C slot_key (slot_for C w key)) key) t))

    -- the slot is among the owner's, or just behind them
    pub slot_low : slot_for C w key ≤ slots_of w + key_count C w
    slot_low = omega (arith, slot_found, (place_found C w key).fits)

    pub slot_among : key_there C w key ≡ true → slot_for C w key < slots_of w + key_count C w
    slot_among t = omega (arith, slot_found, there_within t)

    pub there_key : key_there C w key ≡ true → at C slot_key (slots_of w + place C w key) ≡ key
    unfolding key_there
    there_key t = ap (at C slot_key) (sym slot_found) ∙ eqb-true _ _ (and_right (ltb (slot_for C w key) (slots_of w + key_count C w)) _ t)

    above : key_there C w key ≡ false → place C w key < key_count C w → key < at C slot_key (slots_of w + place C w key)
    unfolding key_there
    above t l = omega (arith, (place_found C w key).stops l, go)
      where
        go : at C slot_key (slots_of w + place C w key) ≡ key → ⊥
        go e = clash (and_both _ _ (lt-ltb (slot_for C w key) (slots_of w + key_count C w) (omega (arith, slot_found))) (eq-eqb _ _ (ap (at C slot_key) slot_found ∙ e))) t

    below : (d : Attribute) (q : ℕ) → q < place C w key → (get_or own q d).key < key
    below d q l = omega (arith, (place_found C w key).fits, (place_found C w key).below q l, own_key q d (omega (arith, (place_found C w key).fits)))

  pub there_put : (a : Attribute) → key_there C w a.key ≡ true → put_attribute a own ≡ set own (place C w a.key) a
  there_put a t =
      put_there a a own (place C w a.key) (omega (arith, own_length, there_within a.key t)) (below a.key a)
      (own_key (place C w a.key) a (there_within a.key t) ∙ there_key a.key t)

  pub new_put : (a : Attribute) → key_there C w a.key ≡ false → put_attribute a own ≡ take (place C w a.key) own ++ (a ∷ drop (place C w a.key) own)
  new_put a t =
      put_new a a own (place C w a.key) (omega (arith, own_length, (place_found C w a.key).fits)) (below a.key a)
      (λ l. let u : place C w a.key < key_count C w = omega (arith, own_length) in omega (arith, own_key (place C w a.key) a u, above a.key t u))

  -- the test over the slots is the rules' test
  pub key_there_lem : (key : ℕ) → keys_rise own ≡ true → key_there C w key ≡ has_key key own
  key_there_lem key rise = go (key_there C w key) (has_key key own) refl refl
    where
      a : Attribute
      a = record { key = key; kind = 0; content = 0; inherent = false }

      go : (x y : Bool) → key_there C w key ≡ x → has_key key own ≡ y → x ≡ y
      go true true t u = refl
      go false false t u = refl
      go true false t u =
          clash (has_there key own (place C w key) a (omega (arith, own_length, there_within key t)) (own_key (place C w key) a (there_within key t) ∙ there_key key t)) u
      go false true t u =
          let p : ℕ = place C w key in
          let l : p ≤ length own = omega (arith, own_length, (place_found C w key).fits) in
          absurd (omega (arith, put_replaced a own rise u, ap length (new_put a t), length-append (take p own) (a ∷ drop p own), length-take-le p own l, length-drop p own))
