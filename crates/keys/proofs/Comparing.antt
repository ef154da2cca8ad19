-- Lists of numbers are in one order for the library and for the rules: the first two that differ decide, or an end. Assumes nothing.
use Prim.Native.Nat.{ℕ, ◌<◌}
use native.Mathlib.Decide.{dec_lt}
use native.Mathlib.Omega.{arith}
use mathlib.Core.Bool.{cond}
use mathlib.Core.List.{List, [], ◌∷◌}
use mathlib.Core.Path.{◌≡◌, refl}
use lib.Dec.{ltb}
use Rattle.std.specs.Cmp.Lexicographic.{slice_cmp}
use Rattle.std.specs.Ordering.{nat_cmp, ordering_then}
use Rattle.std.specs.declared.cmp.Ordering.{Ordering}
use borrow.Author.Tests.{le-ltb, lt-ltb}
use Rattle.std.proofs.lemmas.Bool.{eq-eqb, ne_eqb}
use Rattle.rules.specs.Keys as rules
use Rattle.rules.specs.Keys.{less, greater, compare_bytes, ordering_number}
use Rattle.keys.specs.Order.{number_of_ordering}

-- two numbers decide, or else what follows
first_decides : (x y : ℕ) (o : Ordering) (r : rules.Ordering) → number_of_ordering o ≡ ordering_number r
    → number_of_ordering (ordering_then (nat_cmp x y) o) ≡ ordering_number (cond (ltb x y) less (cond (ltb y x) greater r))
unfolding number_of_ordering ordering_number
first_decides x y o r e = go (dec_lt x y) (dec_lt y x)
  where
    go : Dec (x < y) → Dec (y < x) → number_of_ordering (ordering_then (nat_cmp x y) o) ≡ ordering_number (cond (ltb x y) less (cond (ltb y x) greater r))
    go (yes l) d = simp (lt-ltb x y l)
    go (no l) (yes g) = simp (le-ltb x y (omega arith), lt-ltb y x g, ne_eqb x y (λ e. omega arith))
    go (no l) (no g) = simp (le-ltb x y (omega arith), le-ltb y x (omega arith), eq-eqb x y (omega arith)) e

pub compared_same : (xs ys : List ℕ) → number_of_ordering (slice_cmp nat_cmp xs ys) ≡ ordering_number (compare_bytes xs ys)
unfolding number_of_ordering ordering_number compare_bytes
compared_same [] [] = refl
compared_same [] (y ∷ ys) = refl
compared_same (x ∷ xs) [] = refl
compared_same (x ∷ xs) (y ∷ ys) = first_decides x y (slice_cmp nat_cmp xs ys) (compare_bytes xs ys) (compared_same xs ys)
