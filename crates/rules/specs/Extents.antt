-- Order 12, "How large a key will be": what to reserve for a fragment before its key is written. No type is read, so no list of renamed types
-- is lent.
use Rattle.rules.specs.declared.types.Cause.{Cause}
use Rattle.rules.specs.declared.types.Cause.TheVariants.{NotSound, NotThere}
use Rattle.std.specs.Prelude.{ℕ, zero, suc, Bool, List, [], ◌∷◌, length, max, Option, None, Some}
use Rattle.rules.specs.Store.{Store, max_nesting}
use Rattle.rules.specs.Fragments.{exists, ops_inside, outermost, fragment_ops, defines_values, defines_blocks}
use Rattle.rules.specs.declared.types.Sort.{Sort}
use Rattle.rules.specs.Building.{first_failed}
use Rattle.rules.specs.declared.types.Ignore.{Ignore}
use Rattle.rules.specs.Keys.{key}

-- the largest of what f gives, 0 where there is nothing
unfoldable pub deepest : (ℕ → ℕ) → List ℕ → ℕ
deepest f [] = 0
deepest f (n ∷ ns) = max (f n) (deepest f ns)

-- of an operation: the most regions, one in another, between it and an operation inside it; the first number is that of regions that may
-- still be entered
unfoldable pub op_nesting : ℕ → Store → ℕ → ℕ
op_nesting zero s n = 0
op_nesting (suc k) s n = deepest (λ (m : ℕ). suc (op_nesting k s m)) (ops_inside s n)

-- "the most regions between the fragment, itself not counted, and an operation inside it; 0 where there is none"
unfoldable pub deepest_nesting : Store → Sort → ℕ → ℕ
deepest_nesting s f n = deepest (op_nesting max_nesting s) (outermost s f n)

-- "the key's length in bytes, the values, blocks and operations it defines, and its deepest nesting below itself"
pub record Extent : Type 0 where
  pub bytes : ℕ
  pub values : ℕ
  pub blocks : ℕ
  pub ops : ℕ
  pub nesting : ℕ

unfoldable pub extent : Store → Ignore → Sort → ℕ → Extent
extent s ig f n =
    record {
      bytes = length (key s ig f n);
      values = length (defines_values s f n);
      blocks = length (defines_blocks s f n);
      ops = length (fragment_ops s f n);
      nesting = deepest_nesting s f n;
    }

pub data Sized : Type 0 where
  extent_is : Extent → Sized
  refused_extent : Cause → Sized

unfoldable pub extent_tests : Bool → Store → Sort → ℕ → List (Bool × Cause)
extent_tests lent s f n = (lent, NotSound) ∷ (exists s f n, NotThere) ∷ []

unfoldable pub sized_by : Option Cause → Store → Ignore → Sort → ℕ → Sized
sized_by None s ig f n = extent_is (extent s ig f n)
sized_by (Some cause) s ig f n = refused_extent cause

-- `operation_extent`, `basic_block_extent`, `region_extent`
unfoldable pub sized : Bool → Store → Ignore → Sort → ℕ → Sized
sized lent s ig f n = sized_by (first_failed (extent_tests lent s f n)) s ig f n
