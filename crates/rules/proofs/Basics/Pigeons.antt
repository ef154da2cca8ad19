-- Distinct numbers below n are at most n: each takes another one out of the list of the numbers below n. Assumes nothing.
use Prim.Native.Nat.{ℕ, zero, suc, ◌≤◌, ◌<◌}
use native.Mathlib.Nat.{not-suc-le-zero}
use native.Mathlib.Decide.{ℕ_discrete}
use native.Mathlib.Omega.{arith}
use mathlib.Core.List.Memᴰ
use mathlib.Core.List.{List, [], ◌∷◌, Memᴰ}
use mathlib.Core.Logic.{⊎_elim}
use mathlib.Core.Path.{◌≡◌, refl, sym, ap, ◌∙◌}
use lib.ListN.{length}
use Rattle.rules.proofs.Basics.Distinct.{Distinct}

module _ {A : Type 0} where
  -- a list with one of its entries taken out
  without : {x : A} {ys : List A} → Memᴰ x ys → List A
  without (Memᴰ.head {xs = ys} e) = ys
  without (Memᴰ.tail {x = y} m) = y ∷ without m

  without_length : {x : A} {ys : List A} (m : Memᴰ x ys) → length ys ≡ suc (length (without m))
  unfolding without
  without_length (Memᴰ.head e) = refl
  without_length (Memᴰ.tail m) = ap suc (without_length m)

  without_others : {x : A} {ys : List A} (m : Memᴰ x ys) (y : A) → (y ≡ x → ⊥) → Memᴰ y ys → Memᴰ y (without m)
  unfolding without
  without_others (Memᴰ.head e) y ne k = ⊎_elim (λ f. absurd (ne (f ∙ sym e))) (λ k'. k') (Memᴰ.cases_cons k)
  without_others (Memᴰ.tail m) y ne k = ⊎_elim (λ f. Memᴰ.head f) (λ k'. Memᴰ.tail (without_others m y ne k')) (Memᴰ.cases_cons k)

  -- distinct entries that all stand in another list are at most as many as that has
  pub distinct_most : (xs ys : List A) → Distinct xs → ((x : A) → Memᴰ x xs → Memᴰ x ys) → length xs ≤ length ys
  distinct_most [] ys d h = omega arith
  distinct_most (x ∷ xs) ys d h =
      let m = h x (Memᴰ.head refl) in
      let rest : length xs ≤ length (without m) = distinct_most xs (without m) d.1 (λ y k. without_others m y (λ e. d.0 (Memᴰ.cast (sym e) k)) (h y (Memᴰ.tail k))) in
      omega (arith, without_length m)

below : ℕ → List ℕ
below zero = []
below (suc n) = n ∷ below n

below_length : (n : ℕ) → length (below n) ≡ n
unfolding below
below_length zero = refl
below_length (suc n) = ap suc (below_length n)

below_all : (n x : ℕ) → x < n → Memᴰ x (below n)
unfolding below
below_all zero x l = absurd (not-suc-le-zero l)
below_all (suc n) x l = go (λ l'. below_all n x l') (ℕ_discrete x n)
  where
    go : (x < n → Memᴰ x (below n)) → Dec (x ≡ n) → Memᴰ x (n ∷ below n)
    go f (yes e) = Memᴰ.head e
    go f (no ne) = Memᴰ.tail (f (omega arith))

pub pigeons : (n : ℕ) (xs : List ℕ) → Distinct xs → ((x : ℕ) → Memᴰ x xs → x < n) → length xs ≤ n
pigeons n xs d h = rw below_length at (distinct_most xs (below n) d (λ x m. below_all n x (h x m)))
