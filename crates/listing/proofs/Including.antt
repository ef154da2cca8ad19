-- To include an operation changes its place alone, and there as the tally's two sets change; so operations included one after the other leave
-- the places that are read as the tally with all of them. Assumes nothing.
use Prim.Native.Nat.{ℕ, ◌<◌}
use native.Mathlib.Decide.{ℕ_discrete}
use mathlib.Core.Bool.{Bool, true, false, ◌&&◌, ◌||◌, or_assoc, or-false, and-true, and-false, and-or_distrib_left}
use mathlib.Core.List.{List, [], ◌∷◌, ◌++◌, Memᴰ}
use mathlib.Core.Path.{◌≡◌, refl, sym, ap, subst, ◌∙◌}
use borrow.Author.Tests.{eq-eqb, ne_eqb}
use lib.Dec.{eqb}
use lib.ListN.{length, get_or, length-set}
use lib.Seq.{get_or-set_same, get_or-set_other}
use Rattle.std.specs.List.{list_any}
use Rattle.rules.specs.Listings.{tallied}
use Rattle.listing.specs.Tally.{is_equal, is_inside, tally_of, IsTally, place_after, included, included_all}
use Rattle.listing.specs.declared.places.Place.{Place}
use Rattle.listing.specs.declared.places.Place.TheVariants.{Outside, Inside, InsideEqual}

-- ---- where an operation is once it was found

pub found_inside : (found : Bool) (place : Place) → found ≡ true → InsideEqual ≡ place_after found place
unfolding place_after
found_inside found Outside f = rw f refl
found_inside found Inside f = rw f refl
found_inside found InsideEqual f = refl

pub only_inside : (found : Bool) (place : Place) → (place ≡ InsideEqual → ⊥) → found ≡ false → Inside ≡ place_after found place
unfolding place_after
only_inside found Outside ne f = rw f refl
only_inside found Inside ne f = rw f refl
only_inside found InsideEqual ne f = absurd (ne refl)

module _ (found : Bool) where
  -- ---- one after the other

  pub included_append : (xs ys : List ℕ) (places : List Place) → included_all found (xs ++ ys) places ≡ included_all found ys (included_all found xs places)
  unfolding included_all
  included_append [] ys places = refl
  included_append (x ∷ xs) ys places = included_append xs ys (included found x places)

  include_length : (n : ℕ) (places : List Place) → length (included found n places) ≡ length places
  unfolding included
  include_length n places = length-set places n _

  pub included_length : (xs : List ℕ) (places : List Place) → length (included_all found xs places) ≡ length places
  unfolding included_all
  included_length [] places = refl
  included_length (x ∷ xs) places = included_length xs (included found x places) ∙ include_length x places

  -- ---- a place afterwards

  include_same : (n : ℕ) (places : List Place) → n < length places → get_or (included found n places) n Outside ≡ place_after found (get_or places n Outside)
  unfolding included
  include_same n places l = get_or-set_same places n _ Outside l

  include_other : (n m : ℕ) (places : List Place) → (m ≡ n → ⊥) → get_or (included found n places) m Outside ≡ get_or places m Outside
  unfolding included
  include_other n m places ne = get_or-set_other places n m _ Outside ne

  -- by a test that passes of a new place if it did of the old one, or if this says so
  module _ (p : Place → Bool) (more : Bool) (step : (place : Place) → p (place_after found place) ≡ (p place || more)) where
    include_at : (n m : ℕ) (places : List Place) → n < length places
        → p (get_or (included found n places) m Outside) ≡ (p (get_or places m Outside) || (more && eqb m n))
    include_at n m places l = go (ℕ_discrete m n)
      where
        go : Dec (m ≡ n) → p (get_or (included found n places) m Outside) ≡ (p (get_or places m Outside) || (more && eqb m n))
        go (yes e) =
            let same : get_or (included found n places) m Outside ≡ place_after found (get_or places m Outside) = rw e (include_same n places l) in
            rw (eq-eqb m n e, and-true, same) (step (get_or places m Outside))
        go (no ne) = rw (ne_eqb m n ne, and-false, include_other n m places ne) (sym (or-false (p (get_or places m Outside))))

    includes_at : (ns : List ℕ) (m : ℕ) (places : List Place) → ((n : ℕ) → Memᴰ n ns → n < length places)
        → p (get_or (included_all found ns places) m Outside) ≡ (p (get_or places m Outside) || (more && list_any (eqb m) ns))
    unfolding included_all
    includes_at [] m places l = rw (and-false, or-false)
    includes_at (n ∷ ns) m places l =
        includes_at ns m (included found n places) (λ k i. subst (λ (j : ℕ). k < j) (sym (include_length n places)) (l k (Memᴰ.tail i)))
        ∙ ap (λ (b : Bool). b || (more && list_any (eqb m) ns)) (include_at n m places (l n (Memᴰ.head refl)))
        ∙ or_assoc (p (get_or places m Outside)) (more && eqb m n) (more && list_any (eqb m) ns)
        ∙ ap (λ (b : Bool). p (get_or places m Outside) || b) (sym (and-or_distrib_left more (eqb m n) (list_any (eqb m) ns)))

-- ---- the two sets

equal_after : (found : Bool) (place : Place) → is_equal (place_after found place) ≡ (is_equal place || found)
unfolding is_equal place_after
equal_after true Outside = refl
equal_after true Inside = refl
equal_after true InsideEqual = refl
equal_after false Outside = refl
equal_after false Inside = refl
equal_after false InsideEqual = refl

inside_after : (found : Bool) (place : Place) → is_inside (place_after found place) ≡ (is_inside place || true)
unfolding is_inside place_after
inside_after true Outside = refl
inside_after true Inside = refl
inside_after true InsideEqual = refl
inside_after false Outside = refl
inside_after false Inside = refl
inside_after false InsideEqual = refl

-- what the places are read as
pub reads_included : (found : Bool) (ns : List ℕ) (places : List Place) → ((n : ℕ) → Memᴰ n ns → n < length places) → tally_of (included_all found ns places) ≡ tallied found ns (tally_of places)
unfolding tally_of tallied
reads_included found ns places l =
    λ i. record {
      equal = λ (m : ℕ). includes_at found is_equal found (equal_after found) ns m places l i;
      all = λ (m : ℕ). includes_at found is_inside true (inside_after found) ns m places l i;
    }

pub included_holds : (found : Bool) (ns : List ℕ) (places : List Place) → IsTally places → IsTally (included_all found ns places)
included_holds found ns places t = record { long = included_length found ns places ∙ t.long }
