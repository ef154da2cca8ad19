-- How many numbers pass a test: no more where the test is stronger, at most one more where it differs at one number, at least one fewer where
-- a number that passed does so no longer. Assumes nothing.
use Prim.Native.Nat.{ℕ, zero, suc, ◌+◌, ◌<◌, ◌≤◌}
use native.Mathlib.Decide.{ℕ_discrete}
use native.Mathlib.Nat.{not-suc-le-zero}
use native.Mathlib.Omega.{arith}
use mathlib.Core.Bool.{Bool, true, false, cond}
use mathlib.Core.Path.{◌≡◌, refl, sym, subst}
use Rattle.rules.specs.Lists.{count_below}
use Rattle.rules.proofs.Basics.Tests.{clash}

-- one step of a count
step_le : (a b : Bool) (m n : ℕ) → (a ≡ true → b ≡ true) → m ≤ n → cond a (suc m) m ≤ cond b (suc n) n
step_le true true m n h l = omega arith
step_le true false m n h l = clash (h refl) refl
step_le false true m n h l = omega arith
step_le false false m n h l = l

step_more : (a b : Bool) (m n : ℕ) → m ≤ n → cond a (suc m) m ≤ cond b (suc n) n + 1
step_more true true m n l = omega arith
step_more true false m n l = omega arith
step_more false true m n l = omega arith
step_more false false m n l = omega arith

step_same : (a b : Bool) (m n : ℕ) → (a ≡ true → b ≡ true) → m ≤ n + 1 → cond a (suc m) m ≤ cond b (suc n) n + 1
step_same true true m n h l = omega arith
step_same true false m n h l = clash (h refl) refl
step_same false true m n h l = omega arith
step_same false false m n h l = l

module _ (p q : ℕ → Bool) where
  pub count_le : (n : ℕ) → ((k : ℕ) → k < n → p k ≡ true → q k ≡ true) → count_below n p ≤ count_below n q
  unfolding count_below
  count_le zero h = omega arith
  count_le (suc n) h = step_le (p n) (q n) _ _ (h n (omega arith)) (count_le n (λ k b. h k (omega arith)))

  -- they agree but at l, where the second need not pass
  pub count_more : (l n : ℕ) → ((k : ℕ) → (k ≡ l → ⊥) → p k ≡ true → q k ≡ true) → count_below n p ≤ count_below n q + 1
  unfolding count_below
  count_more l zero h = omega arith
  count_more l (suc n) h = go (ℕ_discrete n l) (count_more l n h)
    where
      -- below l
      under : (i : ℕ) → i ≤ l → count_below i p ≤ count_below i q
      under zero b = omega arith
      under (suc i) b = step_le (p i) (q i) _ _ (h i (λ e. let f : i ≡ l = e in omega arith)) (under i (omega arith))

      go : Dec (n ≡ l) → count_below n p ≤ count_below n q + 1 → count_below (suc n) p ≤ count_below (suc n) q + 1
      go (yes e) r = step_more (p n) (q n) _ _ (under n (omega arith))
      go (no ne) r = step_same (p n) (q n) _ _ (h n ne) r

  -- l passes the second alone
  pub count_less : (l n : ℕ) → l < n → p l ≡ false → q l ≡ true → ((k : ℕ) → p k ≡ true → q k ≡ true) → count_below n p + 1 ≤ count_below n q
  unfolding count_below
  count_less l zero b f t h = absurd (not-suc-le-zero b)
  count_less l (suc n) b f t h = go (ℕ_discrete l n) (λ b'. count_less l n b' f t h)
    where
      last : (a c : Bool) → a ≡ false → c ≡ true → (i j : ℕ) → i ≤ j → cond a (suc i) i + 1 ≤ cond c (suc j) j
      last true c e d i j r = clash refl e
      last false true e d i j r = omega arith
      last false false e d i j r = clash d refl

      before : (a c : Bool) → (a ≡ true → c ≡ true) → (i j : ℕ) → i + 1 ≤ j → cond a (suc i) i + 1 ≤ cond c (suc j) j
      before true true g i j r = omega arith
      before true false g i j r = clash (g refl) refl
      before false true g i j r = omega arith
      before false false g i j r = r

      go : Dec (l ≡ n) → (l < n → count_below n p + 1 ≤ count_below n q) → count_below (suc n) p + 1 ≤ count_below (suc n) q
      go (yes e) r =
          last (p n) (q n) (subst (λ (k : ℕ). p k ≡ false) e f) (subst (λ (k : ℕ). q k ≡ true) e t) _ _ (count_le n (λ k b'. h k))
      go (no ne) r = before (p n) (q n) (h n) _ _ (r (omega arith))

-- none passes
pub count_none : (p : ℕ → Bool) (n : ℕ) → count_below n p ≤ 0 → (k : ℕ) → k < n → p k ≡ false
unfolding count_below
count_none p zero h k b = absurd (not-suc-le-zero b)
count_none p (suc n) h k b = go (p n) refl h (λ g i. count_none p n g k i) (ℕ_discrete k n)
  where
    go : (a : Bool) → p n ≡ a → cond a (suc (count_below n p)) (count_below n p) ≤ 0 → (count_below n p ≤ 0 → k < n → p k ≡ false) → Dec (k ≡ n) → p k ≡ false
    go true e g r d = absurd (omega arith)
    go false e g r (yes i) = subst (λ (j : ℕ). p j ≡ false) (sym i) e
    go false e g r (no ne) = r g (omega arith)

pub count_zero : (p : ℕ → Bool) (n : ℕ) → ((k : ℕ) → p k ≡ false) → count_below n p ≡ 0
unfolding count_below
count_zero p zero h = refl
count_zero p (suc n) h = rw (h n) (count_zero p n h)

-- the numbers below m + n are those below m, and then n more
pub count_parts : (p : ℕ → Bool) (m n : ℕ) → count_below (m + n) p ≡ count_below m p + count_below n (λ (k : ℕ). p (m + k))
unfolding count_below
count_parts p m zero = let e : m + 0 ≡ m = omega arith in let d : count_below m p ≡ count_below m p + 0 = omega arith in rw e d
count_parts p m (suc n) =
    let e : m + suc n ≡ suc (m + n) = omega arith in
    rw e (go (p (m + n)) (count_parts p m n))
  where
    go : (a : Bool) → count_below (m + n) p ≡ count_below m p + count_below n (λ (k : ℕ). p (m + k))
        → cond a (suc (count_below (m + n) p)) (count_below (m + n) p) ≡ count_below m p + cond a (suc (count_below n (λ (k : ℕ). p (m + k)))) (count_below n (λ (k : ℕ). p (m + k)))
    go true h = omega arith
    go false h = h
