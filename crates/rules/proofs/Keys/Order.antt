-- Bytes compared one by one, a proper beginning first, are totally ordered: the first place at which two differ decides. Assumes nothing.
use Prim.Native.Nat.{ℕ, ◌<◌}
use native.Mathlib.Decide.{dec_lt}
use native.Mathlib.Omega.{arith}
use mathlib.Core.List.{List, [], ◌∷◌}
use mathlib.Core.Path.{◌≡◌, refl, sym, ap, ap₂, ◌∙◌}
use borrow.Author.Tests.{lt-ltb, le-ltb}
use Rattle.rules.specs.Keys.{less, same, greater, compare_bytes, reversed}
use Rattle.rules.specs.KeyLaws.{TotalOrder}
use Rattle.rules.proofs.Basics.Tests.{impossible}

-- ---- the first bytes

module _ (x y : ℕ) (xs ys : List ℕ) where
  first_less : x < y → compare_bytes (x ∷ xs) (y ∷ ys) ≡ less
  unfolding compare_bytes
  first_less l = rw (lt-ltb x y l)

  first_greater : y < x → compare_bytes (x ∷ xs) (y ∷ ys) ≡ greater
  unfolding compare_bytes
  first_greater l = rw (le-ltb x y (omega arith), lt-ltb y x l)

  first_same : x ≡ y → compare_bytes (x ∷ xs) (y ∷ ys) ≡ compare_bytes xs ys
  unfolding compare_bytes
  first_same e = rw (le-ltb x y (omega arith), le-ltb y x (omega arith))

-- two numbers, in one of three ways
data Way (x y : ℕ) : Type 0 where
  below : x < y → Way x y
  alike : x ≡ y → Way x y
  above : y < x → Way x y

way : (x y : ℕ) → Way x y
way x y = go (dec_lt x y) (dec_lt y x)
  where
    go : Dec (x < y) → Dec (y < x) → Way x y
    go (yes l) d = below l
    go (no l) (yes m) = above m
    go (no l) (no m) = alike (omega arith)

-- ---- the laws

order_reflexive : (xs : List ℕ) → compare_bytes xs xs ≡ same
unfolding compare_bytes
order_reflexive [] = refl
order_reflexive (x ∷ xs) = first_same x x xs xs refl ∙ order_reflexive xs

order_antisymmetric : (xs ys : List ℕ) → compare_bytes xs ys ≡ same → xs ≡ ys
unfolding compare_bytes
order_antisymmetric [] [] e = refl
order_antisymmetric [] (y ∷ ys) e = impossible cc
order_antisymmetric (x ∷ xs) [] e = impossible cc
order_antisymmetric (x ∷ xs) (y ∷ ys) e = go (way x y) (λ k. order_antisymmetric xs ys k)
  where
    go : Way x y → (compare_bytes xs ys ≡ same → xs ≡ ys) → x ∷ xs ≡ y ∷ ys
    go (below l) rest = impossible (let h : less ≡ same = sym (first_less x y xs ys l) ∙ e in cc)
    go (alike h) rest = ap₂ ◌∷◌ h (rest (sym (first_same x y xs ys h) ∙ e))
    go (above l) rest = impossible (let h : greater ≡ same = sym (first_greater x y xs ys l) ∙ e in cc)

order_total : (xs ys : List ℕ) → compare_bytes ys xs ≡ reversed (compare_bytes xs ys)
unfolding compare_bytes reversed
order_total [] [] = refl
order_total [] (y ∷ ys) = refl
order_total (x ∷ xs) [] = refl
order_total (x ∷ xs) (y ∷ ys) = go (way x y) (order_total xs ys)
  where
    go : Way x y → compare_bytes ys xs ≡ reversed (compare_bytes xs ys) → compare_bytes (y ∷ ys) (x ∷ xs) ≡ reversed (compare_bytes (x ∷ xs) (y ∷ ys))
    go (below l) rest = first_greater y x ys xs l ∙ ap reversed (sym (first_less x y xs ys l))
    go (alike h) rest = first_same y x ys xs (sym h) ∙ rest ∙ ap reversed (sym (first_same x y xs ys h))
    go (above l) rest = first_less y x ys xs l ∙ ap reversed (sym (first_greater x y xs ys l))

order_transitive : (xs ys zs : List ℕ) → compare_bytes xs ys ≡ less → compare_bytes ys zs ≡ less → compare_bytes xs zs ≡ less
unfolding compare_bytes
order_transitive [] [] zs e f = impossible cc
order_transitive [] (y ∷ ys) [] e f = impossible cc
order_transitive [] (y ∷ ys) (z ∷ zs) e f = refl
order_transitive (x ∷ xs) [] zs e f = impossible cc
order_transitive (x ∷ xs) (y ∷ ys) [] e f = impossible cc
order_transitive (x ∷ xs) (y ∷ ys) (z ∷ zs) e f = go (way x y) (way y z) (λ k l. order_transitive xs ys zs k l)
  where
    go : Way x y → Way y z → (compare_bytes xs ys ≡ less → compare_bytes ys zs ≡ less → compare_bytes xs zs ≡ less) → compare_bytes (x ∷ xs) (z ∷ zs) ≡ less
    go (below l) (below m) rest = first_less x z xs zs (omega arith)
    go (below l) (alike h) rest = first_less x z xs zs (omega arith)
    go (alike h) (below m) rest = first_less x z xs zs (omega arith)
    go (alike h) (alike k) rest = first_same x z xs zs (h ∙ k) ∙ rest (sym (first_same x y xs ys h) ∙ e) (sym (first_same y z ys zs k) ∙ f)
    go (above l) w rest = impossible (let h : greater ≡ less = sym (first_greater x y xs ys l) ∙ e in cc)
    go (below l) (above m) rest = impossible (let h : greater ≡ less = sym (first_greater y z ys zs m) ∙ f in cc)
    go (alike h) (above m) rest = impossible (let k : greater ≡ less = sym (first_greater y z ys zs m) ∙ f in cc)

pub key_order : TotalOrder
key_order = record { reflexive = order_reflexive; antisymmetric = order_antisymmetric; total = order_total; transitive = order_transitive }
