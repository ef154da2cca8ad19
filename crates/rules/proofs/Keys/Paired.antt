-- Two lists of one length, related pair by pair. Assumes nothing.
use Prim.Native.Nat.{ℕ}
use native.Mathlib.Omega.{arith}
use mathlib.Core.List.{List, [], ◌∷◌}
use mathlib.Core.Path.{◌≡◌}
use lib.ListN.{length}

abbrev pub Pairs : (ℕ → ℕ → Type 0) → List ℕ → List ℕ → Type 0
Pairs R [] [] = Unit {0}
Pairs R [] (y ∷ ys) = ⊥
Pairs R (x ∷ xs) [] = ⊥
Pairs R (x ∷ xs) (y ∷ ys) = R x y × Pairs R xs ys

-- of which nothing is known but that they are as long
abbrev pub Any : ℕ → ℕ → Type 0
Any a b = Unit {0}

pub pairs_any : (xs ys : List ℕ) → length xs ≡ length ys → Pairs Any xs ys
pairs_any [] [] e = tt
pairs_any [] (y ∷ ys) e = absurd (omega arith)
pairs_any (x ∷ xs) [] e = absurd (omega arith)
pairs_any (x ∷ xs) (y ∷ ys) e = (tt, pairs_any xs ys (omega arith))

pub pairs_both : (R Q S : ℕ → ℕ → Type 0) → ((a b : ℕ) → R a b → Q a b → S a b) → (xs ys : List ℕ) → Pairs R xs ys → Pairs Q xs ys → Pairs S xs ys
pairs_both R Q S h [] [] p q = tt
pairs_both R Q S h [] (y ∷ ys) p q = p
pairs_both R Q S h (x ∷ xs) [] p q = p
pairs_both R Q S h (x ∷ xs) (y ∷ ys) p q = (h x y p.0 q.0, pairs_both R Q S h xs ys p.1 q.1)
