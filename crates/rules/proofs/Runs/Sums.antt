-- The sum of a window, word by word: a word behind the others moves them one further from the end; and the sum of the next window, kept from
-- the one before it. Assumes nothing.
use Prim.Native.Nat.{ℕ, suc, ◌+◌, ◌*◌, ◌%◌, ◌^◌}
use native.Mathlib.Nat.{mul_assoc, add-mul, pow-suc, add-mod-mod}
use native.Mathlib.Omega.{arith}
use mathlib.Core.List.{List, [], ◌∷◌, ◌++◌}
use mathlib.Core.Path.{◌≡◌, sym, ap, ◌∙◌}
use lib.ListN.{length, length-append}
use Rattle.rules.specs.Hash.{fnv_prime}
use Rattle.rules.specs.Runs.{weighted, wrapping_sub, kept_sum}
use Rattle.rules.specs.RunLaws.{KeptSum}
use Rattle.rules.proofs.Basics.Modulo.{step_mod}

abbrev M : ℕ
M = 2 ^ 64

pub weighted_snoc : (ws : List ℕ) (w : ℕ) → weighted (ws ++ (w ∷ [])) ≡ (weighted ws * fnv_prime + w) % 2 ^ 64
unfolding weighted
weighted_snoc [] w = ap (λ (n : ℕ). n % M) (omega arith)
weighted_snoc (v ∷ ws) w =
    let p = fnv_prime in
    let k = length ws in
    let long : length (ws ++ (w ∷ [])) ≡ suc k = length-append ws (w ∷ []) ∙ omega arith in
    let rest = weighted_snoc ws w in
    let moved : v * p ^ suc k + (weighted ws * p + w) ≡ (v * p ^ k + weighted ws) * p + w = further v (p ^ k) p (weighted ws) w (pow-suc p k) in
    (λ i. (v * p ^ (long i) + rest i) % M)
    ∙ add-mod-mod (v * p ^ suc k) (weighted ws * p + w) M
    ∙ ap (λ (n : ℕ). n % M) moved
    ∙ sym (step_mod (v * p ^ k + weighted ws) p w M)
  where
    further : (v q p x w : ℕ) {r : ℕ} → r ≡ q * p → v * r + (x * p + w) ≡ (v * q + x) * p + w
    further v q p x w {r} e =
        let inner : v * (q * p) ≡ v * q * p = sym (mul_assoc v q p) in
        let outer : (v * q + x) * p ≡ v * q * p + x * p = add-mul (v * q) x p in
        ap (λ (n : ℕ). v * n + (x * p + w)) e ∙ omega arith

-- ---- the next window

-- what is left without t, and t, are the whole
taken_out : (t x : ℕ) → wrapping_sub ((t + x) % M) t ≡ x % M
unfolding wrapping_sub
taken_out t x = omega arith

pub sum_kept : (w : ℕ) (ws : List ℕ) (v : ℕ) → kept_sum (weighted (w ∷ ws)) w (length ws) v ≡ weighted (ws ++ (v ∷ []))
unfolding kept_sum weighted
sum_kept w ws v =
    let t = w * fnv_prime ^ length ws in
    ap (λ (n : ℕ). (n * fnv_prime + v) % M) (taken_out t (weighted ws)) ∙ step_mod (weighted ws) fnv_prime v M ∙ sym (weighted_snoc ws v)

pub kept_sum_lem : KeptSum
unfolding KeptSum
kept_sum_lem w ws v = sum_kept w ws v
