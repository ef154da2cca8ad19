-- All that is numbered within an operation without regions are its results: a run of numbers of the store, in which a number's place is how far
-- it is from the first. Assumes nothing.
use Rattle.std.proofs.Common.{◌≡◌, ℕ, ◌-◌, ◌<◌, ◌≤◌, List, [], ◌∷◌, length, refl, ap, arith}
use Rattle.std.specs.List.{flat_map}
use Rattle.rules.specs.Store.{Store, regions_of}
use Rattle.rules.specs.declared.types.Owner.TheVariants.{Op as of_op}
use Rattle.rules.specs.Fragments.{shell, names, steps, full_op, region_steps, levels}
use Rattle.rules.specs.declared.types.Sort.TheVariants.{Op as op}
use Rattle.rules.specs.Hash as rules
use Rattle.rules.specs.declared.types.Name.TheVariants.{StoreNumber as store_number, WalkNumber as walk_number}
use Rattle.rules.specs.Hash.{name_at, name_of}
use Rattle.layout.specs.Reading.{consecutive}
use Rattle.fragments.proofs.Places.{position_run, position_none}

pub no_children : (xs : List ℕ) → length xs ≡ 0 → xs ≡ []
no_children [] e = refl
no_children (x ∷ xs) e = absurd (omega arith)

module _ (first end n : ℕ) where
  pub own_outside : (first ≤ n → n < end → ⊥) → name_of (consecutive first (end - first)) n ≡ store_number n
  unfolding name_of name_at
  own_outside out = rw (position_none n first (end - first) (λ l h. out l (omega arith))) refl

  pub own_inside : first ≤ n → n < end → name_of (consecutive first (end - first)) n ≡ walk_number (n - first)
  unfolding name_of name_at
  own_inside l h = rw (position_run n first (end - first) l (omega arith)) refl

pub two_steps : (s : Store) (n : ℕ) → regions_of s n ≡ [] → steps s op n ≡ shell (of_op n) ∷ names n ∷ []
unfolding steps full_op
two_steps s n none = ap (λ (rs : List ℕ). shell (of_op n) ∷ names n ∷ flat_map (region_steps levels s) rs) none
