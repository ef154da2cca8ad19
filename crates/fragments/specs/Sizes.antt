-- The size of a fragment, by recursion into regions. The first number is that of regions, one in another, that may still be entered.
use Rattle.std.specs.Prelude.{ℕ, zero, suc, ◌^◌, ◌<◌, List, map, ◌≡◌, Some}
use Rattle.rules.specs.Lists.{sum}
use Rattle.rules.specs.Store.{Store, parent_of, levels_left, max_nesting}
use Rattle.rules.specs.Fragments.{ops_inside}
use Rattle.rules.specs.Extents.{deepest, op_nesting}
use Rattle.fragments.specs.declared.types.Size.{Size}

-- an operation counts itself and its nested operations
unfoldable pub op_size : ℕ → Store → ℕ → ℕ
op_size zero s n = 1
op_size (suc left) s n = suc (sum (map (op_size left s) (ops_inside s n)))

-- these count together
unfoldable pub ops_size : ℕ → Store → List ℕ → ℕ
ops_size left s ns = sum (map (op_size left s) ns)

-- as deep is an operation nested that has these next inside it: one region more than the deepest of them
unfoldable pub ops_nesting : ℕ → Store → List ℕ → ℕ
ops_nesting left s ns = deepest (λ (m : ℕ). suc (op_nesting left s m)) ns

-- so many operations, as far as a u32 counts them, and so many regions
pub record SizeIs (many deep : ℕ) (size : Size) : Type 0 where
  pub operations : many < 2 ^ 32 → size.operations ≡ many
  pub nesting : size.nesting ≡ deep

-- so many regions may be around operations inside an operation, besides those around itself: 32 less its depth
abbrev pub LevelsLeft : Store → ℕ → ℕ → Type 0
LevelsLeft s n left = levels_left max_nesting s (parent_of s n) ≡ Some left
