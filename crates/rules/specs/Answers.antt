-- 01, "Causes": what a comparison and a hash answer, under a lent list of renamed types. A refused call leaves the mapping as it was.
use Rattle.rules.specs.declared.types.Cause.{Cause}
use Rattle.rules.specs.declared.types.Cause.TheVariants.{NotSound, NotThere, BadMapping, BadTypes}
use Rattle.std.specs.Prelude.{ℕ, Bool, ◌&&◌, List, [], ◌∷◌, Option, None, Some}
use Rattle.rules.specs.Store.{Store}
use Rattle.rules.specs.Fragments.{exists}
use Rattle.rules.specs.declared.types.Sort.{Sort}
use Rattle.rules.specs.Building.{first_failed}
use Rattle.rules.specs.declared.types.Ignore.{Ignore}
use Rattle.rules.specs.Mapping.{Mapping, allowed}
use Rattle.rules.specs.Types.{types_hold, renamed}
use Rattle.rules.specs.Comparison.{Pair, unequal, one_longer, Walk, on, ended, compare}
use Rattle.rules.specs.Hash.{hash}

-- "eq, op, block or region, the named pair, paired"
pub data Compared : Type 0 where
  eq : ℕ → Compared
  neq : Pair → ℕ → Compared
  refused : Cause → Compared

pub record Comparison : Type 0 where
  pub answer : Compared
  pub mapping : Mapping

-- "Order for a call: 1, 8, 6, 2, 7, 4, 5, 3" (order 13), and order 3: "14, after 8". The first test is the soundness of the lent store,
-- which its layout tells.
unfoldable pub compare_tests : Bool → Store → List ℕ → Mapping → Sort → ℕ → ℕ → List (Bool × Cause)
compare_tests lent s types m f l r =
    (lent, NotSound)
    ∷ (allowed s m, BadMapping)
    ∷ (types_hold types, BadTypes)
    ∷ (exists s f l && exists s f r, NotThere)
    ∷ []

unfoldable pub comparison_of : Walk → Mapping → Comparison
comparison_of (on st) m = record { answer = eq st.paired; mapping = st.mapping }
comparison_of (ended (unequal p) st) m = record { answer = neq p st.paired; mapping = st.mapping }
comparison_of (ended (one_longer p) st) m = record { answer = neq p st.paired; mapping = st.mapping }

unfoldable pub comparison_by : Option Cause → Store → Mapping → Ignore → Sort → ℕ → ℕ → Comparison
comparison_by None s m ig f l r = comparison_of (compare s ig f l r m) m
comparison_by (Some cause) s m ig f l r = record { answer = refused cause; mapping = m }

-- `operation_eq`, `basic_block_eq`, `region_eq` with a lent list of types and a lent mapping
unfoldable pub comparison : Bool → Store → List ℕ → Mapping → Ignore → Sort → ℕ → ℕ → Comparison
comparison lent s types m ig f l r =
    comparison_by (first_failed (compare_tests lent s types m f l r)) (renamed types s) m ig f l r

-- a hash is any 64-bit number, and is never taken for a refusal
pub data Hashed : Type 0 where
  hash_is : ℕ → Hashed
  refused_hash : Cause → Hashed

unfoldable pub hash_tests : Bool → Store → List ℕ → Sort → ℕ → List (Bool × Cause)
hash_tests lent s types f n = (lent, NotSound) ∷ (types_hold types, BadTypes) ∷ (exists s f n, NotThere) ∷ []

unfoldable pub hashed_by : Option Cause → Store → Ignore → Sort → ℕ → Hashed
hashed_by None s ig f n = hash_is (hash s ig f n)
hashed_by (Some cause) s ig f n = refused_hash cause

-- `operation_hash`, `basic_block_hash`, `region_hash` with a lent list of types
unfoldable pub hashed : Bool → Store → List ℕ → Ignore → Sort → ℕ → Hashed
hashed lent s types ig f n = hashed_by (first_failed (hash_tests lent s types f n)) (renamed types s) ig f n
