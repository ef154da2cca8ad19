-- Two lists of numbers that are compared by what a function makes of them. Assumes nothing.
use Prim.Native.Nat.{ℕ}
use native.Mathlib.Omega.{arith}
use mathlib.Core.Bool.{Bool, false, ◌&&◌}
use mathlib.Core.List.{List, [], ◌∷◌, map}
use mathlib.Core.Path.{◌≡◌, refl, ap, sym, ◌∙◌}
use lib.Dec.{eqb}
use lib.ListN.{length, length-map}
use Rattle.std.specs.List.{list_all, zip}
use Rattle.rules.specs.Lists.{same_list}
use Rattle.layout.proofs.Scans.{same_length}

module _ (f : ℕ → ℕ) where
  pub mapped_length : (xs ys : List ℕ) → (length xs ≡ length ys → ⊥) → same_list eqb (map f xs) (map f ys) ≡ false
  mapped_length xs ys ne = same_length (map f xs) (map f ys) (λ e. ne (sym (length-map xs f) ∙ e ∙ length-map ys f))

  pub mapped_pairs : (xs ys : List ℕ) → length xs ≡ length ys → list_all (λ (p : ℕ × ℕ). eqb (f p.0) (f p.1)) (zip xs ys) ≡ same_list eqb (map f xs) (map f ys)
  unfolding same_list
  mapped_pairs [] [] e = refl
  mapped_pairs [] (y ∷ ys) e = absurd (let z : ⊥ = omega arith in z)
  mapped_pairs (x ∷ xs) [] e = absurd (let z : ⊥ = omega arith in z)
  mapped_pairs (x ∷ xs) (y ∷ ys) e = ap (λ (b : Bool). eqb (f x) (f y) && b) (mapped_pairs xs ys (omega arith))
