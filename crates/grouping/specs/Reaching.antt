-- When a fragment reaches into another: it defines an operation or block that is inside it, or names a value or block that is.
use Rattle.std.specs.Prelude.{ℕ, Bool, false, ◌||◌, [], ◌∷◌}
use Rattle.std.specs.List.{list_any}
use Rattle.rules.specs.Store.{Store, op_at}
use Rattle.rules.specs.declared.types.Owner.{Owner}
use Rattle.rules.specs.declared.types.Owner.TheVariants.{Op as of_op, Block as of_block}
use Rattle.rules.specs.Fragments.{Step, shell, names, counted, full_op, list_steps, region_steps, steps, fragment_ops, defines_blocks, defines_values}
use Rattle.rules.specs.declared.types.Sort.{Sort}
use Rattle.rules.specs.Copying.{has_place}

-- an operation or a block is inside fragment n
unfoldable pub owner_inside : Store → Sort → ℕ → Owner → Bool
owner_inside s f n (of_op m) = has_place (fragment_ops s f n) m
owner_inside s f n (of_block b) = has_place (defines_blocks s f n) b

-- an operand or a successor of operation m is
unfoldable pub names_inside : Store → Sort → ℕ → ℕ → Bool
names_inside s f n m = list_any (has_place (defines_values s f n)) (op_at s m).operands || list_any (has_place (defines_blocks s f n)) (op_at s m).successors

-- ---- by the steps of a walk

unfoldable pub reaches : Store → Sort → ℕ → Step → Bool
reaches s f n (shell w) = owner_inside s f n w
reaches s f n (names m) = names_inside s f n m
reaches s f n (counted k) = false

-- of a region, a block and an operation, with so many regions that may still be entered
unfoldable pub region_reaches : Store → Sort → ℕ → ℕ → ℕ → Bool
region_reaches s f n left r = list_any (reaches s f n) (region_steps left s r)

unfoldable pub block_reaches : Store → Sort → ℕ → ℕ → ℕ → Bool
block_reaches s f n left b = list_any (reaches s f n) (list_steps s (full_op s (region_steps left s)) (b ∷ []))

unfoldable pub op_reaches : Store → Sort → ℕ → ℕ → ℕ → Bool
op_reaches s f n left m = list_any (reaches s f n) (shell (of_op m) ∷ full_op s (region_steps left s) m)

-- of a fragment
unfoldable pub fragment_reaches : Store → Sort → ℕ → ℕ → Bool
fragment_reaches s f n x = list_any (reaches s f n) (steps s f x)
