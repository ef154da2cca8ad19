-- The numbers below a length that pass a test of the entry there are as many as the entries that pass it; and an operation inside an equal
-- fragment is inside a fragment. Assumes nothing.
use Prim.Native.Nat.{ℕ, zero, suc, ◌+◌, ◌≤◌}
use native.Mathlib.Numerals.{add-one}
use native.Mathlib.Omega.{arith}
use mathlib.Core.Bool.{Bool, true, false, cond}
use mathlib.Core.List.{List}
use mathlib.Core.Path.{◌≡◌, refl, sym, ap, ◌∙◌}
use lib.ListN.{length, get_or, take}
use Rattle.std.proofs.Math.Seq.{take-length}
use Rattle.std.proofs.lemmas.List.Sums.{sum_by_more}
use Rattle.std.specs.List.{count_by}
use Rattle.rules.specs.Lists.{count_below}
use Rattle.rules.specs.Store.{max_ops}
use Rattle.rules.proofs.Basics.Counts.{count_le}
use Rattle.listing.specs.Tally.{is_equal, is_inside, tally_of, IsTally, Counted}
use Rattle.listing.specs.declared.places.Place.{Place}
use Rattle.listing.specs.declared.places.Place.TheVariants.{Outside, Inside, InsideEqual}

count_most : (p : ℕ → Bool) (n : ℕ) → count_below n p ≤ n
unfolding count_below
count_most p zero = omega arith
count_most p (suc n) = go (p n) (count_most p n)
  where
    go : (b : Bool) → count_below n p ≤ n → cond b (suc (count_below n p)) (count_below n p) ≤ suc n
    go true l = omega arith
    go false l = omega arith

module _ {A : Type 0} (test : A → Bool) (d : A) (xs : List A) where
  count_taken : (i : ℕ) → i ≤ length xs → count_below i (λ (m : ℕ). test (get_or xs m d)) ≡ count_by test (take i xs)
  unfolding count_below
  count_taken zero l = refl
  count_taken (suc i) l =
      one_more (test (get_or xs i d)) (count_taken i (omega arith))
      ∙ sym (sum_by_more (λ (x : A). cond (test x) 1 0) xs i d (omega arith)) ∙ ap (λ (n : ℕ). count_by test (take n xs)) (add-one i)
    where
      one_more : (b : Bool) {n k : ℕ} → n ≡ k → cond b (suc n) n ≡ k + cond b 1 0
      one_more true e = omega arith
      one_more false e = omega arith

  pub count_all : count_by test xs ≡ count_below (length xs) (λ (m : ℕ). test (get_or xs m d))
  count_all = sym (count_taken (length xs) (omega arith) ∙ ap (count_by test) (take-length xs))

equal_inside : (place : Place) → is_equal place ≡ true → is_inside place ≡ true
unfolding is_equal is_inside
equal_inside Outside e = e
equal_inside Inside e = refl
equal_inside InsideEqual e = refl

-- ---- the counts at the end

pub all_counted : (places : List Place) (e a : ℕ) → IsTally places → e ≡ count_by is_equal places → a ≡ count_by is_inside places
    → Counted places (record { equal = e; all = a })
unfolding tally_of
all_counted places e a t p q =
    let equal : e ≡ count_below max_ops (tally_of places).equal = p ∙ count_all is_equal Outside places ∙ ap (λ (n : ℕ). count_below n (tally_of places).equal) t.long in
    let inside : a ≡ count_below max_ops (tally_of places).all = q ∙ count_all is_inside Outside places ∙ ap (λ (n : ℕ). count_below n (tally_of places).all) t.long in
    record {
      equal = equal;
      all = inside;
      part = omega (arith, equal, inside, count_le (tally_of places).equal (tally_of places).all max_ops (λ k l. equal_inside (get_or places k Outside)));
      few = omega (arith, inside, count_most (tally_of places).all max_ops);
    }
