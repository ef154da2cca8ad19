-- A child at the end of its owner's range: an empty range becomes that child's, another one grows up to it, so it holds what it held and the child. Assumes nothing.
use Prim.Native.Nat.{ℕ, ◌+◌, ◌<◌, ◌≤◌}
use native.Mathlib.Decide.{ℕ_discrete}
use native.Mathlib.Omega.{arith}
use mathlib.Core.Bool.{Bool, true, false, cond}
use mathlib.Core.List.{List}
use mathlib.Core.Logic.{◌⊎◌, inl, inr}
use mathlib.Core.Path.{◌≡◌, refl, sym, ap, subst, ◌∙◌}
use borrow.Author.Tests.{leb-true, leb-false}
use lib.Dec.{eqb, leb}
use lib.ListN.{length, get_or, set}
use lib.Seq.{get_or-set_same, get_or-set_other}
use Rattle.layout.specs.Columns.{Cols, at, write}
use Rattle.layout.proofs.Laid.{Shaped, InRange}
use Rattle.mutation.specs.AddedWrites.{begun, extended}
use Rattle.layout.proofs.Buffer.{write_at, write_other, write_shaped}

-- what an owner's range becomes, for a child n: it holds what it held, and ends no later than behind n
pub record Wider (f e f' e' n : ℕ) : Type 0 where
  pub holds : (i : ℕ) → InRange f e i → InRange f' e' i
  pub ends : e' ≤ n + 1

pub wider_same : (f e f' e' n : ℕ) → f' ≡ f → e' ≡ e → e ≤ n → Wider f e f' e' n
wider_same f e f' e' n p q l = record { holds = λ i w. record { from = omega arith; below = omega arith }; ends = omega arith }

-- where it begins: with the child if it was empty, else where it began
Begun : ℕ → ℕ → ℕ → ℕ → Type 0
Begun f e n f' = ((e ≤ f) × (f' ≡ n)) ⊎ ((f < e) × (f' ≡ f))

begun_cases : (f e n : ℕ) → Begun f e n (begun f e n)
unfolding Begun begun
begun_cases f e n = go (leb e f) refl
  where
    go : (b : Bool) → leb e f ≡ b → ((e ≤ f) × (cond b n f ≡ n)) ⊎ ((f < e) × (cond b n f ≡ f))
    go true h = inl (leb-true e f h, refl)
    go false h = inr (leb-false e f h, refl)

wider_own : (f e f' e' n : ℕ) → Begun f e n f' → e' ≡ n + 1 → e ≤ n → Wider f e f' e' n
unfolding Begun
wider_own f e f' e' n (inl p) q l = let z = p.0 in let b = p.1 in record { holds = λ i w. record { from = omega arith; below = omega arith }; ends = omega arith }
wider_own f e f' e' n (inr p) q l = let z = p.0 in let b = p.1 in record { holds = λ i w. record { from = omega arith; below = omega arith }; ends = omega arith }

within_own : (f e f' e' n : ℕ) → Begun f e n f' → e' ≡ n + 1 → e ≤ n → InRange f' e' n
unfolding Begun
within_own f e f' e' n (inl p) q l = let b = p.1 in record { from = omega arith; below = omega arith }
within_own f e f' e' n (inr p) q l = let z = p.0 in let b = p.1 in record { from = omega arith; below = omega arith }

module _ (C : Cols) (first end owner n : ℕ) where
  -- the word that the range begins with
  abbrev new : ℕ
  new = begun (at C first owner) (at C end owner) n

  pub extended_shaped : Shaped C → Shaped (extended C first end owner n)
  unfolding extended
  extended_shaped sh = write_shaped (write C first owner new) end owner (n + 1) (write_shaped C first owner new sh)

  -- the columns of the range are apart
  module _ (apart : eqb first end ≡ false) (apart' : eqb end first ≡ false) where
    pub extended_other : (j : ℕ) → eqb j first ≡ false → eqb j end ≡ false → extended C first end owner n j ≡ C j
    unfolding extended
    extended_other j e q = write_other (write C first owner new) end owner (n + 1) j q ∙ write_other C first owner new j e

    end_column : extended C first end owner n end ≡ set (C end) owner (n + 1)
    unfolding extended
    end_column = write_at (write C first owner new) end owner (n + 1) ∙ ap (λ (l : List ℕ). set l owner (n + 1)) (write_other C first owner new end apart')

    first_column : extended C first end owner n first ≡ set (C first) owner new
    unfolding extended
    first_column = write_other (write C first owner new) end owner (n + 1) first apart ∙ write_at C first owner new

    first_own : owner < length (C first) → Begun (at C first owner) (at C end owner) n (at (extended C first end owner n) first owner)
    unfolding at
    first_own l =
        subst (Begun (get_or (C first) owner 0) (get_or (C end) owner 0) n)
        (sym (ap (λ (xs : List ℕ). get_or xs owner 0) first_column ∙ get_or-set_same (C first) owner new 0 l))
        (begun_cases (get_or (C first) owner 0) (get_or (C end) owner 0) n)

    first_else : (m : ℕ) → (m ≡ owner → ⊥) → at (extended C first end owner n) first m ≡ at C first m
    unfolding at
    first_else m ne = ap (λ (xs : List ℕ). get_or xs m 0) first_column ∙ get_or-set_other (C first) owner m new 0 ne

    pub end_own : owner < length (C end) → at (extended C first end owner n) end owner ≡ n + 1
    unfolding at
    end_own l = ap (λ (xs : List ℕ). get_or xs owner 0) end_column ∙ get_or-set_same (C end) owner (n + 1) 0 l

    pub end_else : (m : ℕ) → (m ≡ owner → ⊥) → at (extended C first end owner n) end m ≡ at C end m
    unfolding at
    end_else m ne = ap (λ (xs : List ℕ). get_or xs m 0) end_column ∙ get_or-set_other (C end) owner m (n + 1) 0 ne

    pub extended_wider : (m : ℕ) → m < length (C first) → m < length (C end) → at C end m ≤ n → Wider (at C first m) (at C end m) (at (extended C first end owner n) first m) (at (extended C first end owner n) end m) n
    extended_wider m lf le l = go (ℕ_discrete m owner)
      where
        go : Dec (m ≡ owner) → Wider (at C first m) (at C end m) (at (extended C first end owner n) first m) (at (extended C first end owner n) end m) n
        go (no ne) = wider_same _ _ _ _ n (first_else m ne) (end_else m ne) l
        go (yes e) =
            subst (λ (k : ℕ). Wider (at C first k) (at C end k) (at (extended C first end owner n) first k) (at (extended C first end owner n) end k) n) (sym e)
            (wider_own _ _ _ _ n (first_own (omega arith)) (end_own (omega arith)) (subst (λ (k : ℕ). at C end k ≤ n) e l))

    pub extended_place : owner < length (C first) → owner < length (C end) → at C end owner ≤ n → InRange (at (extended C first end owner n) first owner) (at (extended C first end owner n) end owner) n
    extended_place lf le l = within_own _ _ _ _ n (first_own lf) (end_own le) l
