-- Digits gone through byte by byte: whether they are well written, and the number that they stand for, which only grows. Assumes nothing.
use Rattle.std.proofs.Common.{◌≡◌, ℕ, ◌+◌, ◌-◌, ◌*◌, ◌^◌, ◌<◌, ◌≤◌, Bool, true, false, cond, not, ◌&&◌, List, [], ◌∷◌, eqb, length, get_or, drop, refl, sym, ap, ap₂, ◌∙◌, arith, add-one}
use Rattle.std.specs.Prelude.{None, Some, Result, Ok, Err}
use borrow.Author.Tests.{lt-ltb, le-ltb, ltb-false}
use lib.Dec.{ltb}
use lib.Seq.{drop-cons}
use Rattle.std.proofs.lemmas.List.{drop_all}
use Rattle.rules.specs.Lists.{every}
use Rattle.std.specs.List.{list_all}
use Rattle.rules.specs.Bytes.{is_digit, well_written, value_from, number_below}
use Rattle.layout.proofs.Scans.{and_false}
use Rattle.std.specs.Result.{OkIff, result_ok}
use Rattle.std.proofs.lemmas.Result.{OkIff-at_ok, OkIff-at_err}
use Rattle.lines.specs.Reading.{starts_well}

-- ---- well written: the first digit and all digits

and_true : (a : Bool) → (a && true) ≡ a
and_true true = refl
and_true false = refl

swapped : (a b c : Bool) → (a && (b && (c && true))) ≡ (b && (a && c))
swapped true b c = ap (λ (t : Bool). b && t) (and_true c)
swapped false true c = refl
swapped false false c = refl

well : (ds : List ℕ) → well_written ds ≡ (starts_well ds && list_all is_digit ds)
unfolding well_written every
well [] = refl
well (d ∷ []) = sym (and_true (is_digit d))
well (d ∷ e ∷ ds) = swapped (is_digit d) (not (eqb d 48)) (list_all is_digit (e ∷ ds))

-- ---- numbers

value_grows : (n : ℕ) (ds : List ℕ) → n ≤ value_from n ds
unfolding value_from
value_grows n [] = omega arith
value_grows n (d ∷ ds) = let h : n * 10 + (d - 48) ≤ value_from (n * 10 + (d - 48)) ds = value_grows (n * 10 + (d - 48)) ds in omega arith

module _ (limit : ℕ) (ds : List ℕ) where
  badly_written : well_written ds ≡ false → number_below limit ds ≡ None
  unfolding number_below
  badly_written h = ap (λ (t : Bool). cond (t && ltb (value_from 0 ds) limit) (Some (value_from 0 ds)) None) h

  pub starts_badly : starts_well ds ≡ false → number_below limit ds ≡ None
  starts_badly h = badly_written (well ds ∙ ap (λ (t : Bool). t && list_all is_digit ds) h)

  too_large : limit ≤ value_from 0 ds → number_below limit ds ≡ None
  unfolding number_below
  too_large h = ap (λ (t : Bool). cond t (Some (value_from 0 ds)) None) (and_false (well_written ds) (ltb (value_from 0 ds) limit) (le-ltb _ _ h))

  is_number : (n : ℕ) → well_written ds ≡ true → value_from 0 ds ≡ n → n < limit → number_below limit ds ≡ Some n
  unfolding number_below
  is_number n w e h =
      ap (λ (t : Bool). cond (t && ltb (value_from 0 ds) limit) (Some (value_from 0 ds)) None) w
      ∙ ap (λ (k : ℕ). cond (ltb k limit) (Some k) None) e
      ∙ ap (λ (t : Bool). cond t (Some n) None) (lt-ltb n limit h)

-- a number within a smaller limit
module _ (small large : ℕ) (le : small ≤ large) where
  none_of : (w : Bool) (v : ℕ) → cond (w && ltb v large) (Some v) None ≡ None → cond (w && ltb v small) (Some v) None ≡ None
  none_of false v h = refl
  none_of true v h = go (ltb v large) refl h
    where
      go : (t : Bool) → ltb v large ≡ t → cond t (Some v) None ≡ None → cond (ltb v small) (Some v) None ≡ None
      go true e h = absurd (cc)
      go false e h = let o = ltb-false v large e in ap (λ (t : Bool). cond t (Some v) None) (le-ltb v small (omega arith))

  some_of : (w : Bool) (v n : ℕ) → cond (w && ltb v large) (Some v) None ≡ Some n → cond (w && ltb v small) (Some v) None ≡ cond (ltb n small) (Some n) None
  some_of false v n h = absurd (cc)
  some_of true v n h = go (ltb v large) h
    where
      go : (t : Bool) → cond t (Some v) None ≡ Some n → cond (ltb v small) (Some v) None ≡ cond (ltb n small) (Some n) None
      go true h = let e : v ≡ n = cc in ap (λ (k : ℕ). cond (ltb k small) (Some k) None) e
      go false h = absurd (cc)

  module _ (ds : List ℕ) where
    pub below_none : number_below large ds ≡ None → number_below small ds ≡ None
    unfolding number_below
    below_none h = none_of (well_written ds) (value_from 0 ds) h

    pub below_some : (n : ℕ) → number_below large ds ≡ Some n → number_below small ds ≡ cond (ltb n small) (Some n) None
    unfolding number_below
    below_some n h = some_of (well_written ds) (value_from 0 ds) n h

-- a number as the library narrows it
pub narrowed : {E : Type 0} (n small : ℕ) (r : Result ℕ E) → OkIff r (n < small) n → cond (ltb n small) (Some n) None ≡ (result_ok r)
narrowed {E} n small (Ok x) k =
    let o = OkIff-at_ok {E = E} (Ok x) (n < small) n x k refl in
    ap (λ (t : Bool). cond t (Some n) None) (lt-ltb n small o.0) ∙ ap Some (sym o.1)
narrowed {E} n small (Err e) k = ap (λ (t : Bool). cond t (Some n) None) (le-ltb n small (omega (arith, OkIff-at_err {E = E} (Err e) (n < small) n e k refl)))

-- ---- the loop: the digits before i stand for n, and those behind decide

pub record Reading (ds : List ℕ) (n i : ℕ) : Type 0 where
  pub small : n < 2 ^ 64
  pub digits : list_all is_digit ds ≡ list_all is_digit (drop i ds)
  pub value : value_from 0 ds ≡ value_from n (drop i ds)

module _ (ds : List ℕ) where
  pub reading_starts : Reading ds 0 0
  reading_starts = record { small = omega arith; digits = refl; value = refl }

  module _ (limit : ℕ) {n i : ℕ} (inv : Reading ds n i) where
    pub reading_ends : starts_well ds ≡ true → length ds ≤ i → n < limit → number_below limit ds ≡ Some n
    unfolding value_from
    reading_ends h l s =
        let e : drop i ds ≡ [] = drop_all i ds l in
        is_number limit ds n
        (well ds ∙ ap₂ ◌&&◌ h (inv.digits ∙ ap (list_all is_digit) e))
        (inv.value ∙ ap (value_from n) e)
        s

    module _ (l : i < length ds) where
      abbrev x : ℕ
      x = get_or ds i 0

      next : drop i ds ≡ x ∷ drop (i + 1) ds
      next = drop-cons ds i 0 l ∙ ap (λ (k : ℕ). x ∷ drop k ds) (sym (add-one i))

      digits_next : (t : Bool) → is_digit x ≡ t → list_all is_digit ds ≡ (t && list_all is_digit (drop (i + 1) ds))
      digits_next t e = inv.digits ∙ ap (list_all is_digit) next ∙ ap (λ (q : Bool). q && list_all is_digit (drop (i + 1) ds)) e

      pub no_digit : is_digit x ≡ false → number_below limit ds ≡ None
      no_digit h = badly_written limit ds (well ds ∙ and_false (starts_well ds) _ (digits_next false h))

      module _ (h : is_digit x ≡ true) where
        value_next : value_from 0 ds ≡ value_from (n * 10 + (x - 48)) (drop (i + 1) ds)
        unfolding value_from
        value_next = inv.value ∙ ap (value_from n) next

        pub over_limit : limit ≤ n * 10 + (x - 48) → number_below limit ds ≡ None
        over_limit m =
            let grown = value_grows (n * 10 + (x - 48)) (drop (i + 1) ds) in
            let z = value_next in
            too_large limit ds (omega arith)

        pub reading_turn : n * 10 + (x - 48) < 2 ^ 64 → Reading ds (n * 10 + (x - 48)) (i + 1)
        reading_turn s = record { small = s; digits = digits_next true h; value = value_next }
