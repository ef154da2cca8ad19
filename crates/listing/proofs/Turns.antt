-- What is included child by child: with each one more, all that is inside those that came is included. Assumes nothing.
use Prim.Native.Nat.{ℕ, suc, ◌-◌}
use native.Mathlib.Omega.{arith}
use mathlib.Core.Bool.{Bool}
use mathlib.Core.List.{List, [], ◌∷◌, ◌++◌, append-nil}
use mathlib.Core.Path.{◌≡◌, refl, sym, ap, ◌∙◌}
use Rattle.std.specs.List.{flat_map}
use Rattle.rules.specs.Store.{Store, ops_of, blocks_of, regions_of}
use Rattle.rules.proofs.Basics.Distinct.{concat_map_append}
use Rattle.listing.specs.Tally.{included, included_all, op_ops_by, block_ops_by, region_ops, block_ops, op_ops}
use Rattle.listing.specs.declared.places.Place.{Place}
use Rattle.listing.proofs.Including.{included_append}

-- all that is inside some children
abbrev pub included_in : Bool → (ℕ → List ℕ) → List ℕ → List Place → List Place
included_in found inside children places = included_all found (flat_map inside children) places

pub one_included : (found : Bool) (inside : ℕ → List ℕ) (came : List ℕ) (child : ℕ) (places before after : List Place) → before ≡ included_in found inside came places → after ≡ included_all found (inside child) before
    → after ≡ included_in found inside (came ++ child ∷ []) places
one_included found inside came child places before after e f =
    f ∙ ap (included_all found (inside child)) e ∙ sym (included_append found (flat_map inside came) (inside child) places)
    ∙ ap (λ (ns : List ℕ). included_all found ns places)
    (ap (λ (ns : List ℕ). flat_map inside came ++ ns) (sym (append-nil (inside child))) ∙ sym (concat_map_append inside came (child ∷ [])))

-- the same of the same children
pub included_same : (found : Bool) (inside : ℕ → List ℕ) (came whole : List ℕ) (places before : List Place) → before ≡ included_in found inside came places → came ≡ whole
    → before ≡ included_in found inside whole places
included_same found inside came whole places before e same = e ∙ ap (λ (ns : List ℕ). included_in found inside ns places) same

pub none_included : (found : Bool) (inside : ℕ → List ℕ) (places : List Place) → places ≡ included_in found inside [] places
unfolding included_all
none_included found inside places = refl

-- ---- what is included in a block, an operation and a region, by their children

module _ (s : Store) (k : ℕ) (found : Bool) (places : List Place) where
  pub block_includes : (b : ℕ) → included_in found (op_ops k s) (ops_of s b) places ≡ included_all found (block_ops k s b) places
  unfolding block_ops op_ops block_ops_by
  block_includes b = refl

  pub op_includes : (n : ℕ) → included_in found (region_ops k s) (regions_of s n) (included found n places) ≡ included_all found (op_ops k s n) places
  unfolding op_ops op_ops_by included_all
  op_includes n = refl

  pub region_includes : (r : ℕ) → (k ≡ 0 → ⊥) → included_in found (block_ops (k - 1) s) (blocks_of s r) places ≡ included_all found (region_ops k s r) places
  unfolding region_ops block_ops
  region_includes r ne = let e : k ≡ suc (k - 1) = omega arith in ap (λ (i : ℕ). included_all found (region_ops i s r) places) (sym e)

  pub no_includes : (r : ℕ) → k ≡ 0 → places ≡ included_all found (region_ops k s r) places
  unfolding region_ops included_all
  no_includes r e = ap (λ (i : ℕ). included_all found (region_ops i s r) places) (sym e)
