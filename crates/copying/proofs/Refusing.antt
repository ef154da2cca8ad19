-- The cause for which a copy is refused: the first test that fails gives it, and where none does there is none. Assumes nothing.
use Rattle.rules.specs.declared.types.Cause.TheVariants.{NamedEarly, NotThere, TooDeep, StoreFull, PlacedInside}
use Rattle.rules.specs.declared.types.Cause.{Cause}
use Prim.Native.Nat.{ℕ, ◌<◌}
use mathlib.Core.Bool.{true, false, ◌&&◌}
use mathlib.Core.List.{List}
use Rattle.std.specs.Prelude.{Option, None, Some}
use mathlib.Core.Path.{◌≡◌, refl, sym, ap, ◌∙◌}
use borrow.Author.Tests.{lt-ltb}
use Rattle.rules.specs.Store.{Store, op_exists, parent_exists, totals_hold}
use Rattle.rules.specs.Building.{first_failed}
use Rattle.rules.specs.Fragments.{steps}
use Rattle.rules.specs.declared.types.Sort.TheVariants.{Op as op}
use Rattle.rules.specs.Hash.{no_numbers}
use Rattle.rules.specs.Copying.{placed_outside, in_time, copy_nests, copied, copy_tests}
use Rattle.rules.proofs.Basics.Tests.{and_both}
use Rattle.rules.proofs.Soundness.Accepted.{first_failed_none}
use Rattle.layout.specs.Columns.{columns}
use Rattle.layout.specs.Reading.{op_count, store_in}
use Rattle.layout.specs.Soundness.{IsSound}
use Rattle.layout.proofs.Tabulate.{op_exists_lem}
use Rattle.mutation.proofs.Causes.{none_fail, fails, passes}
use Rattle.copying.proofs.Totalled.{totals_with}

module _ (s : Store) (n : ℕ) (place : Option ℕ) where
  abbrev failing : Option Cause
  failing = first_failed (copy_tests s n place)

  pub no_op_lem : op_exists s n ≡ false → failing ≡ Some NotThere
  unfolding copy_tests
  no_op_lem e = fails _ NotThere _ (ap (λ b. b && parent_exists s place) e)

  module _ (e : op_exists s n ≡ true) where
    pub no_parent : parent_exists s place ≡ false → failing ≡ Some NotThere
    unfolding copy_tests
    no_parent p = fails _ NotThere _ (ap (λ b. b && parent_exists s place) e ∙ p)

    module _ (p : parent_exists s place ≡ true) where
      there : (op_exists s n && parent_exists s place) ≡ true
      there = and_both (op_exists s n) _ e p

      pub inside : placed_outside s n place ≡ false → failing ≡ Some PlacedInside
      unfolding copy_tests
      inside h = passes _ NotThere _ there (fails _ PlacedInside _ h)

      module _ (o : placed_outside s n place ≡ true) where
        pub early : in_time s n (steps s op n) no_numbers ≡ false → failing ≡ Some NamedEarly
        unfolding copy_tests
        early h = passes _ NotThere _ there (passes _ PlacedInside _ o (fails _ NamedEarly _ h))

        module _ (t : in_time s n (steps s op n) no_numbers ≡ true) where
          pub deep : copy_nests s n place ≡ false → failing ≡ Some TooDeep
          unfolding copy_tests
          deep h = passes _ NotThere _ there (passes _ PlacedInside _ o (passes _ NamedEarly _ t (fails _ TooDeep _ h)))

          module _ (d : copy_nests s n place ≡ true) where
            pub full : totals_hold (copied s n place) ≡ false → failing ≡ Some StoreFull
            unfolding copy_tests
            full h = passes _ NotThere _ there (passes _ PlacedInside _ o (passes _ NamedEarly _ t (passes _ TooDeep _ d (fails _ StoreFull _ h))))

            pub clear : totals_hold (copied s n place) ≡ true → failing ≡ None
            unfolding copy_tests
            clear h = passes _ NotThere _ there (passes _ PlacedInside _ o (passes _ NamedEarly _ t (passes _ TooDeep _ d (passes _ StoreFull _ h none_fail))))

  pub clear_totals : failing ≡ None → totals_hold (copied s n place) ≡ true
  unfolding copy_tests
  clear_totals e = (first_failed_none _ e).1.1.1.1.0

pub exists_op : (b : List ℕ) (n : ℕ) → n < op_count (columns b) → op_exists (store_in b) n ≡ true
exists_op b n l = op_exists_lem (columns b) n ∙ lt-ltb n _ l

-- the totals are the same wherever the copy goes
pub totals_anywhere : (b : List ℕ) → IsSound b → (n : ℕ) → n < op_count (columns b) → (place other : Option ℕ)
    → totals_hold (copied (store_in b) n place) ≡ totals_hold (copied (store_in b) n other)
totals_anywhere b h n l place other = sym (totals_with b h n l place _ refl) ∙ totals_with b h n l other _ refl
