-- A block's operations, listed: they are few, each exists, and a run of them is its first operation and the rest. Assumes nothing.
use Prim.Native.Nat.{ℕ, zero, suc, ◌+◌, ◌-◌, ◌<◌, ◌≤◌}
use native.Mathlib.Omega.{arith}
use mathlib.Core.List.Memᴰ
use mathlib.Core.List.{List, [], ◌∷◌, Memᴰ}
use mathlib.Core.Logic.{◌⊎◌, inl, inr, ⊎_elim}
use mathlib.Core.Path.{◌≡◌, refl, sym, ap, ap₂, subst, ◌∙◌}
use lib.ListN.{length, take, drop, get_or}
use lib.Seq.{drop-cons, length-take-le}
use Rattle.std.proofs.Common.{length-drop}
use Rattle.rules.specs.Runs.{run_of}
use Rattle.rules.proofs.Basics.Appended.{mem_get_d}
use Rattle.rules.proofs.Runs.Answered.{few_ops}
use Rattle.layout.specs.Columns.{columns}
use Rattle.layout.specs.Reading.{op_count, store_in}
use Rattle.layout.specs.Soundness.{IsSound}
use Rattle.fragments.proofs.Ordered.{op_in_lem}
use Rattle.repeated_runs.specs.Walked.{OpsOf}

module _ {store ops : List ℕ} {b : ℕ} (sd : IsSound store) (h : OpsOf store ops b) where
  pub few : length ops < 512
  few = subst (λ (l : List ℕ). length l < 512) (sym h.all) (few_ops (store_in store) sd.ruled b)

  pub op_here : (i : ℕ) → i < length ops → get_or ops i 0 < op_count (columns store)
  op_here i l = op_in_lem (columns store) b (get_or ops i 0) (subst (λ (o : List ℕ). Memᴰ (get_or ops i 0) o) h.all (mem_get_d ops i 0 l))

-- a run is its first operation and the rest
pub run_first : (ops : List ℕ) (n i : ℕ) → 1 ≤ n → i + n ≤ length ops → run_of ops n i ≡ get_or ops i 0 ∷ run_of ops (n - 1) (i + 1)
unfolding run_of
run_first ops n i l h =
    let m : n ≡ suc (n - 1) = omega arith in
    let j : suc i ≡ i + 1 = omega arith in
    ap₂ take m (drop-cons ops i 0 (omega arith)) ∙ ap (λ (x : ℕ). get_or ops i 0 ∷ take (n - 1) (drop x ops)) j

-- ---- what is in a run is in the list

taken_in : (n : ℕ) (l : List ℕ) {x : ℕ} → Memᴰ x (take n l) → Memᴰ x l
taken_in zero l m = absurd (Memᴰ.not-nil m)
taken_in (suc n) [] m = m
taken_in (suc n) (y ∷ l) m = ⊎_elim (λ e. Memᴰ.head e) (λ k. Memᴰ.tail (taken_in n l k)) (Memᴰ.cases_cons m)

dropped_in : (n : ℕ) (l : List ℕ) {x : ℕ} → Memᴰ x (drop n l) → Memᴰ x l
dropped_in zero l m = m
dropped_in (suc n) [] m = m
dropped_in (suc n) (y ∷ l) m = Memᴰ.tail (dropped_in n l m)

pub run_in : (ops : List ℕ) (n i : ℕ) {x : ℕ} → Memᴰ x (run_of ops n i) → Memᴰ x ops
unfolding run_of
run_in ops n i m = dropped_in i ops (taken_in n (drop i ops) m)

-- an operation of a run exists
pub run_here : {store ops : List ℕ} {b : ℕ} → OpsOf store ops b → (n i x : ℕ) → Memᴰ x (run_of ops n i) → x < op_count (columns store)
run_here {store} {ops} {b} h n i x m = op_in_lem (columns store) b x (subst (Memᴰ x) h.all (run_in ops n i m))

-- a run has as many operations as it is told
pub run_long : (ops : List ℕ) (n i : ℕ) → i + n ≤ length ops → length (run_of ops n i) ≡ n
unfolding run_of
run_long ops n i l = length-take-le n (drop i ops) (omega (arith, length-drop i ops))

-- two lists of one length end together
pub end_together : (xs ys : List ℕ) → length xs ≡ length ys → (xs ≡ []) ⊎ (ys ≡ []) → (xs ≡ []) × (ys ≡ [])
end_together [] [] l e = (refl, refl)
end_together [] (y ∷ ys) l e = absurd (let z : ⊥ = omega arith in z)
end_together (x ∷ xs) [] l e = absurd (let z : ⊥ = omega arith in z)
end_together (x ∷ xs) (y ∷ ys) l e = absurd (let z : ⊥ = omega (arith, lengths e) in z)
  where
    lengths : (x ∷ xs ≡ []) ⊎ (y ∷ ys ≡ []) → length (x ∷ xs) ≡ 0
    lengths (inl h) = ap (λ (zs : List ℕ). length zs) h
    lengths (inr h) = l ∙ ap (λ (zs : List ℕ). length zs) h
