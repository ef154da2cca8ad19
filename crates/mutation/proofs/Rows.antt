-- New values and other new rows stand behind the old ones: so lists that are read from the rows are longer by what is new, and each row is an old one or a new one. Assumes nothing.
use Prim.Native.Nat.{ℕ, ◌+◌, ◌-◌, ◌<◌, ◌≤◌}
use native.Mathlib.Nat.{add-zero}
use native.Mathlib.Numerals.{add-one}
use native.Mathlib.Omega.{arith}
use mathlib.Core.Bool.{Bool, true, false}
use mathlib.Core.List.{List, [], ◌∷◌, ◌++◌, map}
use mathlib.Core.Logic.{◌⊎◌, inl, inr}
use mathlib.Core.Path.{◌≡◌, refl, sym, ap, ap₂, subst, ◌∙◌}
use borrow.Author.Tests.{ltb-true, ltb-false}
use lib.Dec.{ltb}
use lib.ListN.{length, get_or, length-map, get_or-map}
use lib.Seq.{ext_get_or}
use Rattle.rules.specs.Lists.{sum}
use Rattle.rules.specs.Store.{Value}
use Rattle.rules.specs.declared.types.Owner.{Owner}
use Rattle.rules.specs.Building.{values_for}
use Rattle.layout.specs.Columns.{Cols, at, value_type, value_owner}
use Rattle.layout.specs.Reading.{tabulate_from, tabulate, attributes_from, value_count, owner_from, owner_code, value_of}
use Rattle.layout.specs.Soundness.{in_owner, value_laid}
use Rattle.layout.proofs.Laid.{Owned, Laid}
use Rattle.layout.proofs.Sums.{sum_snoc}
use Rattle.layout.proofs.Ranges.{owner_read_lem}
use Rattle.layout.proofs.Tabulate.{length_tabulate, get_d_tabulate, tabulate_cong, tabulate_suc, tabulate_add}
use Rattle.mutation.proofs.Grew.{Grew, value_same, value_kept}

-- ---- an old number or a new one

pub old_or_last : (n m : ℕ) → n < m + 1 → (n < m) ⊎ (n ≡ m)
old_or_last n m l = go (ltb n m) refl
  where
    go : (b : Bool) → ltb n m ≡ b → (n < m) ⊎ (n ≡ m)
    go true e = inl (ltb-true n m e)
    go false e = inr (let h = ltb-false n m e in omega arith)

pub old_or_new : (n m k : ℕ) → n < m + k → (n < m) ⊎ ((i : ℕ) × (i < k) × (n ≡ m + i))
old_or_new n m k l = go (ltb n m) refl
  where
    go : (b : Bool) → ltb n m ≡ b → (n < m) ⊎ ((i : ℕ) × (i < k) × (n ≡ m + i))
    go true e = inl (ltb-true n m e)
    go false e = let h = ltb-false n m e in inr (n - m, omega arith, omega arith)

-- ---- what is read of the rows

module _ {A : Type 0} (N n : ℕ) (f g : ℕ → A) (same : (i : ℕ) → i < n → f i ≡ g i) where
  pub rows_last : (a : A) → N ≡ n + 1 → f n ≡ a → tabulate N f ≡ tabulate n g ++ (a ∷ [])
  rows_last a e l =
      ap (λ (m : ℕ). tabulate m f) (e ∙ add-one n) ∙ tabulate_suc n f ∙ ap₂ (λ (xs : List A) (x : A). xs ++ (x ∷ [])) (tabulate_cong n f g same) l

  pub rows_new : (xs : List A) (d : A) → N ≡ n + length xs → ((i : ℕ) → i < length xs → f (n + i) ≡ get_or xs i d) → tabulate N f ≡ tabulate n g ++ xs
  rows_new xs d e l =
      ap (λ (m : ℕ). tabulate m f) e ∙ tabulate_add n (length xs) f
      ∙ ap₂ (λ (ys zs : List A). ys ++ zs) (tabulate_cong n f g same)
      (ext_get_or d (tabulate (length xs) (λ (i : ℕ). f (n + i))) xs (length_tabulate (length xs) _)
      (λ i h. let b : i < length xs = omega (arith, length_tabulate (length xs) (λ (j : ℕ). f (n + j))) in get_d_tabulate (length xs) _ i d b ∙ l i b))

  pub rows_kept : N ≡ n → tabulate N f ≡ tabulate n g
  rows_kept e = ap (λ (m : ℕ). tabulate m f) e ∙ tabulate_cong n f g same

pub no_attributes : (C : Cols) (first n : ℕ) → n ≡ 0 → attributes_from C first n ≡ []
unfolding attributes_from tabulate tabulate_from
no_attributes C first n e = ap (attributes_from C first) e

-- ---- new values

pub record ValuesAdded (C D : Cols) (w : Owner) (types : List ℕ) : Type 0 where
  pub count : value_count D ≡ value_count C + length types
  pub type : (i : ℕ) → i < length types → at D value_type (value_count C + i) ≡ get_or types i 0
  pub owner : (i : ℕ) → i < length types → at D value_owner (value_count C + i) ≡ owner_code w

pub values_read : (C D : Cols) (w : Owner) (types : List ℕ) → Laid C → Grew C D → ValuesAdded C D w types → tabulate (value_count D) (value_of D) ≡ tabulate (value_count C) (value_of C) ++ values_for w types
unfolding values_for value_of
values_read C D w types h g a =
    rows_new (value_count D) (value_count C) (value_of D) (value_of C) (value_same C D h g) (map new types) (new 0) (rw length-map a.count)
    (λ i l. let b : i < length types = rw length-map at l in
    sym (get_or-map new types i 0 ∙ (λ j. record { type = sym (a.type i b) j; owner = sym (ap owner_from (a.owner i b) ∙ owner_read_lem w) j })))
  where
    new : ℕ → Value
    new t = record { type = t; owner = w }

pub values_laid : (C D : Cols) (w : Owner) (types : List ℕ) → Laid C → Grew C D → ValuesAdded C D w types → ((i : ℕ) → i < length types → in_owner D (value_count C + i) w ≡ true)
    → (v : ℕ) → v < value_count D → value_laid D v ≡ true
unfolding value_laid
values_laid C D w types h g a owned v l = go (old_or_new v (value_count C) (length types) (subst (λ (n : ℕ). v < n) a.count l))
  where
    go : (v < value_count C) ⊎ ((i : ℕ) × (i < length types) × (v ≡ value_count C + i)) → in_owner D v (owner_from (at D value_owner v)) ≡ true
    go (inl b) = value_kept C D h g v b
    go (inr n) =
        subst (λ (u : ℕ). in_owner D u (owner_from (at D value_owner u)) ≡ true) (sym n.2)
        (ap (λ (c : ℕ). in_owner D (value_count C + n.0) (owner_from c)) (a.owner n.0 n.1) ∙ ap (in_owner D (value_count C + n.0)) (owner_read_lem w) ∙ owned n.0 n.1)

-- an owner's range of new rows
pub new_owned : (D : Cols) (k a e n count total w : ℕ) → a ≡ n → e ≡ n + count → n + count ≤ total → ((i : ℕ) → i < count → at D k (n + i) ≡ w) → Owned D k a e total w
new_owned D k a e n count total w ea ee l words =
    record {
      range = record { rises = omega arith; fits = omega arith };
      words = λ i b. ap (λ (x : ℕ). at D k (x + i)) ea ∙ words i (omega arith);
    }

pub sum_last : (xs : List ℕ) → sum (xs ++ (0 ∷ [])) ≡ sum xs
sum_last xs = sum_snoc xs 0 ∙ add-zero (sum xs)
