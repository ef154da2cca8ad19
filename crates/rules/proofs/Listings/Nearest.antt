-- The per cent is the nearest one: the quotient or one more, by twice the rest, and at an exact half whichever of the two is even. Assumes nothing.
use Prim.Native.Nat.{ℕ, zero, suc, ◌+◌, ◌*◌, ◌-◌, ◌/◌, ◌%◌, ◌<◌, ◌≤◌}
use native.Mathlib.Nat.{mod-lt, div-add-mod', add-mul, mul_comm, one-mul}
use native.Mathlib.Decide.{dec_lt}
use native.Mathlib.Omega.{arith}
use mathlib.Core.Bool.{Bool, true, false, cond}
use mathlib.Core.Path.{◌≡◌, refl, sym, ap, subst, ◌∙◌}
use borrow.Author.Tests.{ltb-true, ltb-false, eqb-true, eqb-false, ne_eqb}
use lib.Dec.{eqb, ltb}
use Rattle.rules.specs.Listings.{rounded_up, nearest, per_cent}
use Rattle.rules.specs.ListingLaws.{apart}

-- q is a nearest number of n over d, and even where another is as near
abbrev Nearest : ℕ → ℕ → ℕ → Type 0
Nearest q n d = (2 * apart (q * d) n ≤ d) × (2 * apart (q * d) n ≡ d → q % 2 ≡ 0)

-- a number and its last binary digit, or one more
even_or_odd : (q : ℕ) → (q + q % 2) % 2 ≡ 0
even_or_odd q = omega arith

module _ (n d : ℕ) (pos : 0 < d) where
  abbrev q : ℕ
  q = n / d

  abbrev r : ℕ
  r = n % d

  parts : q * d + r ≡ n
  parts = div-add-mod' n d

  low : r < d
  low = mod-lt n pos

  below : 2 * r ≤ d → (2 * r ≡ d → q % 2 ≡ 0) → Nearest q n d
  unfolding apart
  below l even =
      let p = parts in
      let a : (q * d - n) + (n - q * d) ≡ r = omega arith in
      (omega arith, λ e. even (omega arith))

  above : d ≤ 2 * r → (2 * r ≡ d → (q + 1) % 2 ≡ 0) → Nearest (q + 1) n d
  unfolding apart
  above l even =
      let p = parts in
      let lr = low in
      let m : (q + 1) * d ≡ q * d + d = add-mul q 1 d ∙ ap (λ (x : ℕ). q * d + x) (one-mul d) in
      let a : ((q + 1) * d - n) + (n - (q + 1) * d) ≡ d - r = omega arith in
      (omega arith, λ e. even (omega arith))

  half : 2 * r ≡ d → (b : ℕ) → q % 2 ≡ b → Nearest (q + b) n d
  half e zero z = subst (λ (x : ℕ). Nearest x n d) (omega arith) (below (omega arith) (λ y. z))
  half e (suc zero) z = above (omega arith) (λ y. omega arith)
  half e (suc (suc b)) z = absurd (omega arith)

  rounded : Nearest (q + rounded_up q (2 * r) d) n d
  unfolding rounded_up
  rounded = go (ltb d (2 * r)) refl (eqb (2 * r) d) refl
    where
      go : (t : Bool) → ltb d (2 * r) ≡ t → (s : Bool) → eqb (2 * r) d ≡ s → Nearest (q + cond t 1 (cond s (q % 2) 0)) n d
      go true e s f = let l : d < 2 * r = ltb-true d (2 * r) e in above (omega arith) (λ y. absurd (omega arith))
      go false e true f = half (eqb-true (2 * r) d f) (q % 2) refl
      go false e false f =
          let l : 2 * r ≤ d = ltb-false d (2 * r) e in
          subst (λ (x : ℕ). Nearest x n d) (omega arith) (below l (λ y. absurd (eqb-false (2 * r) d f y)))

pub per_cent_nearest : (part whole : ℕ) → 0 < whole
    → (2 * apart (per_cent part whole * whole) (100 * part) ≤ whole) × (2 * apart (per_cent part whole * whole) (100 * part) ≡ whole → per_cent part whole % 2 ≡ 0)
unfolding per_cent nearest
per_cent_nearest part whole pos =
    let e : per_cent part whole ≡ nearest (part * 100) whole
    = ap (λ (b : Bool). cond b 0 (nearest (part * 100) whole)) (ne_eqb whole 0 (λ z. omega arith)) in
    subst (λ (x : ℕ). Nearest x (100 * part) whole) (sym e) (subst (λ (n : ℕ). Nearest (nearest (part * 100) whole) n whole) (mul_comm part 100) (rounded (part * 100) whole pos))

-- a part of the whole is no more than a hundred per cent: with one more the nearest would be a whole one off
pub per_cent_most : (part whole : ℕ) → part ≤ whole → per_cent part whole ≤ 100
unfolding per_cent apart
per_cent_most part zero h = omega arith
per_cent_most part (suc w) h = go (dec_lt 100 (per_cent part (suc w)))
  where
    go : Dec (100 < per_cent part (suc w)) → per_cent part (suc w) ≤ 100
    go (no n) = omega arith
    go (yes l) =
        let p = per_cent part (suc w) in
        let near = (per_cent_nearest part (suc w) (omega arith)).0 in
        let e : p ≡ 101 + (p - 101) = omega arith in
        let m : p * suc w ≡ 101 * suc w + (p - 101) * suc w = ap (λ (x : ℕ). x * suc w) e ∙ add-mul 101 (p - 101) (suc w) in
        absurd (omega arith)
