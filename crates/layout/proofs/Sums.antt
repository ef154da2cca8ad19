-- The sum of a tabulated list: one entry more at a time, and how large it can get. Assumes nothing.
use Prim.Native.Nat.{ℕ, zero, suc, ◌+◌, ◌*◌, ◌<◌, ◌≤◌}
use native.Mathlib.Omega.{arith}
use mathlib.Core.List.{List, [], ◌∷◌, ◌++◌}
use mathlib.Core.Path.{◌≡◌, refl, ap, ◌∙◌}
use Rattle.rules.specs.Lists.{sum}
use Rattle.layout.specs.Reading.{tabulate, tabulate_from}
use Rattle.layout.proofs.Tabulate.{tabulate_suc}

pub sum_snoc : (xs : List ℕ) (x : ℕ) → sum (xs ++ (x ∷ [])) ≡ sum xs + x
unfolding sum
sum_snoc [] x = omega arith
sum_snoc (y ∷ ys) x = omega (arith, sum_snoc ys x)

pub sum_none : (f : ℕ → ℕ) → 0 ≡ sum (tabulate 0 f)
unfolding sum tabulate tabulate_from
sum_none f = refl

pub sum_suc : (n : ℕ) (f : ℕ → ℕ) → sum (tabulate (suc n) f) ≡ sum (tabulate n f) + f n
sum_suc n f = ap sum (tabulate_suc n f) ∙ sum_snoc (tabulate n f) (f n)

pub sum_next : (n : ℕ) (f : ℕ → ℕ) → sum (tabulate (n + 1) f) ≡ sum (tabulate n f) + f n
sum_next n f = ap (λ (k : ℕ). sum (tabulate k f)) (let e : n + 1 ≡ suc n = omega arith in e) ∙ sum_suc n f

pub sum_bound : (n : ℕ) (f : ℕ → ℕ) → ((i : ℕ) → i < n → f i ≤ 8) → sum (tabulate n f) ≤ 8 * n
sum_bound zero f h = omega (arith, sum_none f)
sum_bound (suc n) f h = omega (arith, sum_suc n f, sum_bound n f (λ i l. h i (omega arith)), h n (omega arith))
