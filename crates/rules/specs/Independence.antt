-- 01's premise of the laws, as a test: what a caller asks before he relies on them. `independent` holds exactly where `Premise` does
-- (`GroupingLaws`, `IndependentIs`).
use Rattle.rules.specs.declared.types.Cause.{Cause}
use Rattle.rules.specs.declared.types.Cause.TheVariants.{NotSound, NotThere}
use Rattle.std.specs.Prelude.{ℕ, Bool, not, ◌&&◌, ◌||◌, List, [], ◌∷◌, eqb, Option, None, Some}
use Rattle.rules.specs.Lists.{every}
use Rattle.std.specs.List.{list_all, list_any}
use Rattle.rules.specs.Store.{Store, same_owner}
use Rattle.rules.specs.Fragments.{exists, defines_owners, defines_values, defines_blocks, names_values, names_blocks}
use Rattle.rules.specs.declared.types.Sort.{Sort}
use Rattle.rules.specs.Building.{first_failed}

-- no entry of one list is the same as one of the other
unfoldable pub disjoint : {A : Type 0} → (A → A → Bool) → List A → List A → Bool
disjoint {A} same xs ys = list_all (λ (x : A). not (list_any (same x) ys)) xs

-- the first names no value and no block that the second defines
unfoldable pub names_nothing_of : Store → Sort → ℕ → ℕ → Bool
names_nothing_of s f a b =
    disjoint eqb (names_values s f a) (defines_values s f b) && disjoint eqb (names_blocks s f a) (defines_blocks s f b)

-- the same fragment, or fragments that share no operation or block and of which neither names a value or block that is defined in the other
unfoldable pub independent : Store → Sort → ℕ → ℕ → Bool
independent s f a b =
    eqb a b
    || every
    (disjoint same_owner (defines_owners s f a) (defines_owners s f b)
    ∷ names_nothing_of s f a b
    ∷ names_nothing_of s f b a
    ∷ [])

-- ---- the call

pub data Independence : Type 0 where
  independence_is : Bool → Independence
  refused_independence : Cause → Independence

unfoldable pub independence_tests : Bool → Store → Sort → ℕ → ℕ → List (Bool × Cause)
independence_tests lent s f a b = (lent, NotSound) ∷ (exists s f a && exists s f b, NotThere) ∷ []

unfoldable pub independence_by : Option Cause → Store → Sort → ℕ → ℕ → Independence
independence_by None s f a b = independence_is (independent s f a b)
independence_by (Some cause) s f a b = refused_independence cause

-- `operations_independent`, `basic_blocks_independent`, `regions_independent`. No type is read, so no list of renamed types is lent
unfoldable pub independence : Bool → Store → Sort → ℕ → ℕ → Independence
independence lent s f a b = independence_by (first_failed (independence_tests lent s f a b)) s f a b
