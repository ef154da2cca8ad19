-- The code keeps the sum of a window as the rules do, and so has the next window's sum. Assumes nothing.
use Rattle.std.proofs.Common.{◌≡◌, ℕ, zero, suc, ◌+◌, ◌-◌, ◌*◌, ◌%◌, ◌^◌, ◌<◌, ◌≤◌, List, [], ◌∷◌, ◌++◌, length, get_or, take, drop, sym, ap, ◌∙◌, add-one, arith, length-drop, length-take-le, get_or-drop, drop-cons, take-suc}
use native.Mathlib.Nat.{mod-add-mod}
use Rattle.rules.specs.Hash.{fnv_prime}
use Rattle.rules.specs.Runs.{run_of, weighted, wrapping_sub, kept_sum}
use Rattle.rules.proofs.Basics.Modulo.{right_mod}
use Rattle.rules.proofs.Runs.Sums.{sum_kept}
use Rattle.repeated_runs.proofs.Weights.{M}

-- a product, a subtraction that wraps, a product and a sum keep the sum
code_kept : (sum w k v : ℕ) {t r p s : ℕ} → t ≡ (w * fnv_prime ^ k) % M → r ≡ (sum + (M - t)) % M → p ≡ (r * fnv_prime) % M → s ≡ (p + v) % M
    → s ≡ kept_sum sum w k v
unfolding kept_sum wrapping_sub
code_kept sum w k v {t} {r} e0 e1 e2 e3 =
    e3
    ∙ ap (λ (x : ℕ). (x + v) % M) e2
    ∙ mod-add-mod (r * fnv_prime) M v
    ∙ ap (λ (x : ℕ). (x * fnv_prime + v) % M) (e1 ∙ ap (λ (x : ℕ). (sum + (M - x)) % M) e0)

-- ---- a window of hashes

module _ (hashes : List ℕ) (i m : ℕ) (l : i + suc m < length hashes) where
  abbrev rest : List ℕ
  rest = take m (drop (suc i) hashes)

  begins : run_of hashes (suc m) i ≡ get_or hashes i 0 ∷ rest
  unfolding run_of
  begins = ap (take (suc m)) (drop-cons hashes i 0 (omega arith))

  ends : run_of hashes (suc m) (i + 1) ≡ rest ++ (get_or hashes (i + suc m) 0 ∷ [])
  unfolding run_of
  ends =
      let long = length-drop (suc i) hashes in
      let there : suc i + m ≡ i + suc m = omega arith in
      ap (λ (k : ℕ). take (suc m) (drop k hashes)) (add-one i)
      ∙ take-suc (drop (suc i) hashes) m 0 (omega arith)
      ∙ ap (λ (v : ℕ). rest ++ (v ∷ [])) (get_or-drop (suc i) hashes m 0 ∙ ap (λ (k : ℕ). get_or hashes k 0) there)

  many : length rest ≡ m
  many = length-take-le m (drop (suc i) hashes) (omega (arith, length-drop (suc i) hashes))

  kept_of : (power sum : ℕ) {t r p s : ℕ} → power ≡ fnv_prime ^ m % M → sum ≡ weighted (run_of hashes (suc m) i) → t ≡ (get_or hashes i 0 * power) % M
      → r ≡ (sum + (M - t)) % M → p ≡ (r * fnv_prime) % M → s ≡ (p + get_or hashes (i + suc m) 0) % M → s ≡ weighted (run_of hashes (suc m) (i + 1))
  kept_of power sum {t} e0 e1 e2 e3 e4 e5 =
      let w = get_or hashes i 0 in
      let v = get_or hashes (i + suc m) 0 in
      let leaving : t ≡ (w * fnv_prime ^ length rest) % M =
      e2 ∙ ap (λ (x : ℕ). (w * x) % M) e0 ∙ right_mod w (fnv_prime ^ m) M ∙ ap (λ (x : ℕ). (w * fnv_prime ^ x) % M) (sym many) in
      code_kept sum w (length rest) v leaving e3 e4 e5
      ∙ ap (λ (x : ℕ). kept_sum x w (length rest) v) (e1 ∙ ap weighted begins)
      ∙ sum_kept w rest v
      ∙ ap weighted (sym ends)

pub window_kept : (hashes : List ℕ) (n i power sum : ℕ) {t r p s : ℕ} → 1 ≤ n → i + n < length hashes → power ≡ fnv_prime ^ (n - 1) % M
    → sum ≡ weighted (run_of hashes n i) → t ≡ (get_or hashes i 0 * power) % M → r ≡ (sum + (M - t)) % M → p ≡ (r * fnv_prime) % M
    → s ≡ (p + get_or hashes (i + n) 0) % M → s ≡ weighted (run_of hashes n (i + 1))
window_kept hashes zero i power sum few l e0 e1 e2 e3 e4 e5 = absurd (let z : ⊥ = omega arith in z)
window_kept hashes (suc m) i power sum few l e0 e1 e2 e3 e4 e5 =
    let same : suc m - 1 ≡ m = omega arith in
    kept_of hashes i m l power sum (e0 ∙ ap (λ (x : ℕ). fnv_prime ^ x % M) same) e1 e2 e3 e4 e5
