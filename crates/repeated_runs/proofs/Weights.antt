-- A table that keeps the rule from entry to entry has each power at its place, and with these powers a window is summed from the front.
-- Assumes nothing.
use Rattle.std.proofs.Common.{◌≡◌, ℕ, zero, suc, ◌+◌, ◌-◌, ◌*◌, ◌%◌, ◌^◌, ◌<◌, ◌≤◌, true, eqb, List, [], ◌∷◌, length, get_or, drop, sym, refl, ap, ◌∙◌, add-zero, add_assoc, add-suc, mod-lt, mod-eq_of_lt, suc-add, pow-suc, zero-add, add-one, arith, length-drop, drop_of_length-le, drop-cons, eqb-true}
use native.Mathlib.Nat.{mod-add-mod, add-mod-mod}
use Rattle.rules.specs.Hash.{fnv_prime}
use Rattle.rules.specs.Runs.{max_run, weighted}
use Rattle.rules.proofs.Basics.Tests.{and_left, and_right}
use Rattle.rules.proofs.Basics.Modulo.{left_mod, right_mod}
use Rattle.repeated_runs.specs.Powers.{chained, IsPowers}

abbrev pub M : ℕ
M = 2 ^ 64

-- ---- the table

next_power : (i x : ℕ) → x ≡ fnv_prime ^ i % M → (x * fnv_prime) % M ≡ fnv_prime ^ suc i % M
next_power i x e =
    ap (λ (n : ℕ). (n * fnv_prime) % M) e ∙ left_mod (fnv_prime ^ i) fnv_prime M ∙ ap (λ (n : ℕ). n % M) (sym (pow-suc fnv_prime i))

-- the entries of a table from its i-th on
chained_from : (xs : List ℕ) (i p : ℕ) → p ≡ fnv_prime ^ i % M → chained p xs ≡ true → (k : ℕ) → k < length xs
    → get_or xs k 0 ≡ fnv_prime ^ (i + k) % M
unfolding chained
chained_from [] i p e h k l = absurd (let z : ⊥ = omega arith in z)
chained_from (x ∷ xs) i p e h zero l =
    eqb-true x p (and_left (eqb x p) _ h) ∙ e ∙ ap (λ (n : ℕ). fnv_prime ^ n % M) (sym (add-zero i))
chained_from (x ∷ xs) i p e h (suc k) l =
    let here = eqb-true x p (and_left (eqb x p) _ h) ∙ e in
    chained_from xs (suc i) _ (next_power i x here) (and_right (eqb x p) _ h) k (omega arith)
    ∙ ap (λ (n : ℕ). fnv_prime ^ n % M) (suc-add i k ∙ sym (add-suc i k))

-- the rule from entry to entry, tested over the whole table, gives the power at each entry
pub powers_chained : (xs : List ℕ) → chained 1 xs ≡ true → length xs ≡ max_run → IsPowers xs
powers_chained xs h e = record { many = e; each = λ i l. power i (omega arith) }
  where
    power : (i : ℕ) → i < length xs → get_or xs i 0 ≡ fnv_prime ^ i % M
    power i l = chained_from xs 0 1 refl h i l ∙ ap (λ (n : ℕ). fnv_prime ^ n % M) (zero-add i)

-- ---- one window

-- each word times the power of its distance from the end, added to what stands before it
unfoldable pub from_front : ℕ → List ℕ → ℕ
from_front a [] = a
from_front a (w ∷ ws) = from_front ((a + (w * (fnv_prime ^ length ws % M)) % M) % M) ws

front_added : (a : ℕ) (ws : List ℕ) → a < M → from_front a ws ≡ (a + weighted ws) % M
unfolding from_front weighted
front_added a [] l = sym (ap (λ (n : ℕ). n % M) (add-zero a) ∙ mod-eq_of_lt l)
front_added a (w ∷ ws) l =
    let q = fnv_prime ^ length ws in
    let here = (a + (w * (q % M)) % M) % M in
    let added : here ≡ (a + w * q) % M = ap (λ (n : ℕ). (a + n) % M) (right_mod w q M) ∙ add-mod-mod a (w * q) M in
    front_added here ws (mod-lt (a + (w * (q % M)) % M) (omega arith))
    ∙ ap (λ (n : ℕ). (n + weighted ws) % M) added
    ∙ mod-add-mod (a + w * q) M (weighted ws)
    ∙ ap (λ (n : ℕ). n % M) (add_assoc a (w * q) (weighted ws))
    ∙ sym (add-mod-mod a (w * q + weighted ws) M)

weighted_below : (ws : List ℕ) → weighted ws < M
unfolding weighted
weighted_below [] = omega arith
weighted_below (w ∷ ws) = mod-lt (w * fnv_prime ^ length ws + weighted ws) (omega arith)

pub weighted_front : (ws : List ℕ) → from_front 0 ws ≡ weighted ws
weighted_front ws =
    front_added 0 ws (omega arith) ∙ ap (λ (n : ℕ). n % M) (zero-add (weighted ws)) ∙ mod-eq_of_lt (weighted_below ws)

-- the words before i are in the sum
module _ (ws : List ℕ) where
  pub word_added : (powers : List ℕ) (i sum : ℕ) {p r : ℕ} → IsPowers powers → length ws ≤ max_run → i < length ws
      → from_front sum (drop i ws) ≡ weighted ws → p ≡ (get_or ws i 0 * get_or powers (length ws - i - 1) 0) % M → r ≡ (sum + p) % M
      → from_front r (drop (i + 1) ws) ≡ weighted ws
  unfolding from_front
  word_added powers i sum {p} {r} t few l h ep er =
      let w = get_or ws i 0 in
      let rest = drop (suc i) ws in
      let far : length ws - i - 1 ≡ length rest = omega (arith, length-drop (suc i) ws) in
      let power : get_or powers (length ws - i - 1) 0 ≡ fnv_prime ^ length rest % M =
      t.each (length ws - i - 1) (omega arith) ∙ ap (λ (n : ℕ). fnv_prime ^ n % M) far in
      let added : r ≡ (sum + (w * (fnv_prime ^ length rest % M)) % M) % M =
      er ∙ ap (λ (n : ℕ). (sum + n) % M) (ep ∙ ap (λ (n : ℕ). (w * n) % M) power) in
      ap (λ (n : ℕ). from_front r (drop n ws)) (add-one i)
      ∙ ap (λ (n : ℕ). from_front n rest) added
      ∙ sym (ap (from_front sum) (drop-cons ws i 0 l))
      ∙ h

  pub words_added : (i sum : ℕ) → length ws ≤ i → from_front sum (drop i ws) ≡ weighted ws → sum ≡ weighted ws
  unfolding from_front
  words_added i sum l h = sym (ap (from_front sum) (drop_of_length-le ws l)) ∙ h
