-- Columns of the right lengths are those of a buffer: the one in which they stand one behind the other. Assumes nothing.
use Prim.Native.Nat.{ℕ, zero, suc, ◌+◌}
use native.Mathlib.Omega.{arith}
use mathlib.Core.List.{List, [], ◌∷◌, ◌++◌}
use mathlib.Core.Path.{◌≡◌, refl, ap, ◌∙◌, fun_ext}
use lib.ListN.{length, get_or, take, drop, length-append}
use Rattle.rules.specs.Lists.{sum}
use Rattle.layout.specs.Columns.{Cols, column_sizes, base, buffer_length, columns}
use Rattle.layout.proofs.Laid.{Shaped}

-- ---- a list and one behind it

no_entries : (xs : List ℕ) → length xs ≡ 0 → [] ≡ xs
no_entries [] e = refl
no_entries (x ∷ xs) e = absurd (omega arith)

take_first : (xs ys : List ℕ) (n : ℕ) → length xs ≡ n → take n (xs ++ ys) ≡ xs
take_first [] ys zero e = refl
take_first [] ys (suc n) e = absurd (omega arith)
take_first (x ∷ xs) ys zero e = absurd (omega arith)
take_first (x ∷ xs) ys (suc n) e = ap (λ (zs : List ℕ). x ∷ zs) (take_first xs ys n (omega arith))

drop_first : (xs ys : List ℕ) (n m : ℕ) → length xs ≡ n → drop (n + m) (xs ++ ys) ≡ drop m ys
drop_first [] ys zero m e = let z : 0 + m ≡ m = omega arith in ap (λ (k : ℕ). drop k ys) z
drop_first [] ys (suc n) m e = absurd (omega arith)
drop_first (x ∷ xs) ys zero m e = absurd (omega arith)
drop_first (x ∷ xs) ys (suc n) m e =
    let z : suc n + m ≡ suc (n + m) = omega arith in
    ap (λ (k : ℕ). drop k (x ∷ (xs ++ ys))) z ∙ drop_first xs ys n m (omega arith)

-- ---- columns, one behind the other

behind : List ℕ → Cols → List ℕ
behind [] D = []
behind (z ∷ zs) D = D 0 ++ behind zs (λ (k : ℕ). D (suc k))

behind_length : (zs : List ℕ) (D : Cols) → ((k : ℕ) → length (D k) ≡ get_or zs k 0) → length (behind zs D) ≡ sum zs
unfolding behind sum
behind_length [] D h = refl
behind_length (z ∷ zs) D h =
    let rest : length (behind zs (λ (k : ℕ). D (suc k))) ≡ sum zs = behind_length zs (λ (k : ℕ). D (suc k)) (λ k. h (suc k)) in
    length-append (D 0) _ ∙ omega (arith, h 0)

behind_at : (zs : List ℕ) (D : Cols) → ((k : ℕ) → length (D k) ≡ get_or zs k 0) → (k : ℕ) → take (get_or zs k 0) (drop (sum (take k zs)) (behind zs D)) ≡ D k
unfolding behind sum
behind_at [] D h k = no_entries (D k) (h k)
behind_at (z ∷ zs) D h zero = take_first (D 0) _ z (h 0)
behind_at (z ∷ zs) D h (suc k) =
    ap (take (get_or zs k 0)) (drop_first (D 0) (behind zs (λ (j : ℕ). D (suc j))) z (sum (take k zs)) (h 0))
    ∙ behind_at zs (λ (j : ℕ). D (suc j)) (λ j. h (suc j)) k

pub filled : (D : Cols) → Shaped D → (b : List ℕ) × (length b ≡ buffer_length) × (columns b ≡ D)
unfolding columns base sum
filled D h = (behind column_sizes D, behind_length column_sizes D h, fun_ext (behind_at column_sizes D h))
