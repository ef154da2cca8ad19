-- The Rust numbers what it defines in a hash map, by the map's length, and an insertion overwrites; where nothing is defined twice, a number
-- is the place in the list of what was defined. Assumes nothing.
use Prim.Native.Nat.{ℕ, suc, ◌+◌}
use native.Mathlib.Nat.{add-zero}
use native.Mathlib.Omega.{arith}
use mathlib.Core.Bool.{Bool, true, false, cond}
use mathlib.Core.List.Memᴰ
use mathlib.Core.List.{List, [], ◌∷◌, ◌++◌, append_assoc, append-nil, Memᴰ}
use Rattle.std.specs.Prelude.{Option, None, Some}
use mathlib.Core.Path.{◌≡◌, refl, sym, ap, subst, ◌∙◌}
use borrow.Author.Tests.{ne_eqb}
use lib.Dec.{eqb}
use lib.ListN.{length}
use Rattle.rules.specs.Lists.{later, position}
use Rattle.rules.specs.Rust.{insert, lookup, define, define_all}
use Rattle.rules.proofs.Basics.Distinct.{Distinct}

-- the entries of a list, numbered by their places from i on
unfoldable pub indexed : ℕ → List ℕ → List (ℕ × ℕ)
indexed i [] = []
indexed i (x ∷ xs) = (x, i) ∷ indexed (suc i) xs

indexed_length : (i : ℕ) (xs : List ℕ) → length (indexed i xs) ≡ length xs
unfolding indexed
indexed_length i [] = refl
indexed_length i (x ∷ xs) = ap suc (indexed_length (suc i) xs)

-- ---- looked up

further : ℕ → Option ℕ → Option ℕ
further i None = None
further i (Some j) = Some (i + j)

further_later : (i : ℕ) (o : Option ℕ) → further (suc i) o ≡ further i (later o)
unfolding further later
further_later i None = refl
further_later i (Some j) = ap {B = Option ℕ} Some (omega arith)

lookup_from : (k i : ℕ) (xs : List ℕ) → lookup k (indexed i xs) ≡ further i (position k xs)
unfolding lookup indexed position further
lookup_from k i [] = refl
lookup_from k i (x ∷ xs) = go (eqb k x) (lookup_from k (suc i) xs)
  where
    go : (t : Bool) → lookup k (indexed (suc i) xs) ≡ further (suc i) (position k xs)
        → cond t (Some i) (lookup k (indexed (suc i) xs)) ≡ further i (cond t (Some 0) (later (position k xs)))
    go true e = ap Some (sym (add-zero i))
    go false e = e ∙ further_later i (position k xs)

pub lookup_place : (k : ℕ) (xs : List ℕ) → lookup k (indexed 0 xs) ≡ position k xs
unfolding further
lookup_place k xs = lookup_from k 0 xs ∙ go (position k xs)
  where
    go : (o : Option ℕ) → further 0 o ≡ o
    go None = refl
    go (Some j) = ap {B = Option ℕ} Some (omega arith)

-- ---- defined

insert_new : (k i v : ℕ) (xs : List ℕ) → (Memᴰ k xs → ⊥) → v ≡ i + length xs → insert k v (indexed i xs) ≡ indexed i (xs ++ (k ∷ []))
unfolding insert indexed
insert_new k i v [] absent e = let f : v ≡ i = e ∙ add-zero i in rw f refl
insert_new k i v (x ∷ xs) absent e =
    let f : v ≡ suc i + length xs = omega (arith, e) in
    rw (ne_eqb k x (λ h. absent (Memᴰ.head h))) (ap (λ (es : List (ℕ × ℕ)). (x, i) ∷ es) (insert_new k (suc i) v xs (λ m. absent (Memᴰ.tail m)) f))

-- what stands behind a list isn't in it
not_before : (xs : List ℕ) (k : ℕ) (ks : List ℕ) → Distinct (xs ++ (k ∷ ks)) → Memᴰ k xs → ⊥
not_before [] k ks d m = elim m [ ]
not_before (x ∷ xs) k ks d (Memᴰ.head e) = d.0 (Memᴰ.append_right xs (Memᴰ.head (sym e)))
not_before (x ∷ xs) k ks d (Memᴰ.tail m) = not_before xs k ks d.1 m

pub define_all_lem : (xs ks : List ℕ) → Distinct (xs ++ ks) → define_all (indexed 0 xs) ks ≡ indexed 0 (xs ++ ks)
unfolding define_all define
define_all_lem xs [] d = ap (indexed 0) (sym (append-nil xs))
define_all_lem xs (k ∷ ks) d =
    let e : xs ++ (k ∷ ks) ≡ (xs ++ (k ∷ [])) ++ ks = sym (append_assoc xs (k ∷ []) ks) in
    ap (λ (es : List (ℕ × ℕ)). define_all es ks) (insert_new k 0 _ xs (not_before xs k ks d) (indexed_length 0 xs ∙ omega arith))
    ∙ define_all_lem (xs ++ (k ∷ [])) ks (subst Distinct e d)
    ∙ ap (indexed 0) (sym e)
