-- The twins among a store's operations: for each operation the first one before it that is independent of it and equal to it.
use Rattle.rules.specs.declared.types.Cause.{Cause}
use Rattle.rules.specs.declared.types.Cause.TheVariants.{NotSound, NoRoom, BadTypes}
use Rattle.std.specs.Prelude.{ℕ, Bool, true, ◌&&◌, List, [], ◌∷◌, map, leb, length, Option, None, Some}
use Rattle.rules.specs.Lists.{numbers_where}
use Rattle.rules.specs.Store.{Store, Op}
use Rattle.rules.specs.declared.types.Sort.TheVariants.{Op as op}
use Rattle.rules.specs.Building.{first_failed}
use Rattle.rules.specs.declared.types.Ignore.{Ignore}
use Rattle.rules.specs.Types.{types_hold, renamed}
use Rattle.rules.specs.Laws.{equal}
use Rattle.rules.specs.Keys.{written}
use Rattle.rules.specs.Runs.{first_of}
use Rattle.rules.specs.Independence.{independent}

-- m stands for n: the two are independent, and equal from an empty mapping with m on the left
unfoldable pub is_twin : Store → Ignore → ℕ → ℕ → Bool
is_twin s ig n m = independent s op m n && equal s ig op m n

-- the first operation before n that stands for it
unfoldable pub twin_of : Store → Ignore → ℕ → Option ℕ
twin_of s ig n = first_of n 0 (is_twin s ig n)

-- of each operation, by rising number
unfoldable pub twins_of : Store → Ignore → List (Option ℕ)
twins_of s ig = map (twin_of s ig) (numbers_where (λ (o : Op). true) s.ops)

-- ---- the call: a word for each operation, from the begin of the lent ones on

-- the number of no operation
abbrev pub no_twin : ℕ
no_twin = 4294967295

unfoldable pub twin_word : Option ℕ → ℕ
twin_word None = no_twin
twin_word (Some m) = m

-- how many operations there are
pub data Grouped : Type 0 where
  grouped : ℕ → Grouped
  refused_twins : Cause → Grouped

-- the answer, and the lent words afterwards
pub record Grouping : Type 0 where
  pub answer : Grouped
  pub words : List ℕ

-- 13 for fewer lent words than there are operations
unfoldable pub twin_tests : Bool → Store → List ℕ → ℕ → List (Bool × Cause)
twin_tests lent s types room = (lent, NotSound) ∷ (types_hold types, BadTypes) ∷ (leb (length s.ops) room, NoRoom) ∷ []

unfoldable pub grouping_by : Option Cause → Store → Ignore → List ℕ → Grouping
grouping_by None s ig words = record { answer = grouped (length s.ops); words = written (map twin_word (twins_of s ig)) words }
grouping_by (Some cause) s ig words = record { answer = refused_twins cause; words = words }

-- `twins_of_operations` with a lent list of types
unfoldable pub grouping : Bool → Store → List ℕ → Ignore → List ℕ → Grouping
grouping lent s types ig words = grouping_by (first_failed (twin_tests lent s types (length words))) (renamed types s) ig words
