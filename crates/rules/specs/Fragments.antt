-- 01, "Store": "A fragment is an operation, block or region with all inside it", what it names and defines, in the order of the walk,
-- and which operations are next inside it.
use Rattle.std.specs.Prelude.{ℕ, zero, suc, Bool, ◌⊎◌, ◌≡◌, length}
use mathlib.Core.List.{List, [], ◌∷◌, ◌++◌, map, Memᴰ}
use Rattle.std.specs.List.{flat_map}
use Rattle.rules.specs.Store.{Store, op_at, ops_of, blocks_of, regions_of, values_of, op_exists, block_exists, region_exists, max_nesting}
use Rattle.rules.specs.declared.types.Sort.{Sort}
use Rattle.rules.specs.declared.types.Sort.TheVariants.{Op as op, Block as block, Region as region}
use Rattle.rules.specs.declared.types.Owner.{Owner}
use Rattle.rules.specs.declared.types.Owner.TheVariants.{Op as of_op, Block as of_block}

unfoldable pub exists : Store → Sort → ℕ → Bool
exists s op n = op_exists s n
exists s block n = block_exists s n
exists s region n = region_exists s n

-- ---- the steps of a walk: "all block shells, all operation shells, all full operations"

-- a shell is what an operation or a block is apart from other things; an operation's names are its operands and successors; and a list
-- of so many shells begins, which defines and names nothing, and of which a hash takes in nothing
pub data Step : Type 0 where
  shell : Owner → Step
  names : ℕ → Step
  counted : ℕ → Step

-- "Full operation: each operand, then each successor ... Then its regions."
unfoldable pub full_op : Store → (ℕ → List Step) → ℕ → List Step
full_op s in_region n = names n ∷ flat_map in_region (regions_of s n)

-- a list of blocks, or of operations, by their shells
unfoldable pub shells : (ℕ → Owner) → List ℕ → List Step
shells w ns = counted (length ns) ∷ map (λ (n : ℕ). shell (w n)) ns

-- "Blocks: all block shells, all operation shells, all full operations." "Blocks are counted once, ahead of their shells, and each
-- block's operations once, ahead of that block's operation shells."
unfoldable pub list_steps : Store → (ℕ → List Step) → List ℕ → List Step
list_steps s full bs =
    shells of_block bs
    ++ flat_map (λ (b : ℕ). shells of_op (ops_of s b)) bs
    ++ flat_map (λ (b : ℕ). flat_map full (ops_of s b)) bs

-- the first number is that of regions, one in another, that the walk may still enter
unfoldable pub region_steps : ℕ → Store → ℕ → List Step
region_steps zero s r = []
region_steps (suc k) s r = list_steps s (full_op s (region_steps k s)) (blocks_of s r)

-- a walk enters at most 33 regions, one in another: those around operations of the deepest nesting, and theirs. What stands at 0 levels,
-- here, in `compare_regions` and in `region_events`, may be anything: no walk over a sound store comes there (`LevelsEnough`)
abbrev pub levels : ℕ
levels = suc max_nesting

-- "An operation alone: shell, then full"; a block is a list of one
unfoldable pub steps : Store → Sort → ℕ → List Step
steps s op n = shell (of_op n) ∷ full_op s (region_steps levels s) n
steps s block n = list_steps s (full_op s (region_steps levels s)) (n ∷ [])
steps s region n = region_steps levels s n

-- ---- "it names its operands and successors, and defines its results, arguments, blocks and operations"

unfoldable pub step_defines : Step → List Owner
step_defines (shell w) = w ∷ []
step_defines (names n) = []
step_defines (counted k) = []

unfoldable pub op_owner : Owner → List ℕ
op_owner (of_op n) = n ∷ []
op_owner (of_block b) = []

unfoldable pub block_owner : Owner → List ℕ
block_owner (of_op n) = []
block_owner (of_block b) = b ∷ []

unfoldable pub step_operands : Store → Step → List ℕ
step_operands s (shell w) = []
step_operands s (names n) = (op_at s n).operands
step_operands s (counted k) = []

unfoldable pub step_successors : Store → Step → List ℕ
step_successors s (shell w) = []
step_successors s (names n) = (op_at s n).successors
step_successors s (counted k) = []

-- the operations and blocks in a fragment, the fragment itself included
unfoldable pub defines_owners : Store → Sort → ℕ → List Owner
defines_owners s f n = flat_map step_defines (steps s f n)

-- the operations inside a fragment, "a fragment's own operation included"
unfoldable pub fragment_ops : Store → Sort → ℕ → List ℕ
fragment_ops s f n = flat_map op_owner (defines_owners s f n)

unfoldable pub defines_values : Store → Sort → ℕ → List ℕ
defines_values s f n = flat_map (values_of s) (defines_owners s f n)

unfoldable pub defines_blocks : Store → Sort → ℕ → List ℕ
defines_blocks s f n = flat_map block_owner (defines_owners s f n)

unfoldable pub names_values : Store → Sort → ℕ → List ℕ
names_values s f n = flat_map (step_operands s) (steps s f n)

unfoldable pub names_blocks : Store → Sort → ℕ → List ℕ
names_blocks s f n = flat_map (step_successors s) (steps s f n)

-- no entry of one list stands in the other
abbrev pub Disjoint : {A : Type 0} → List A → List A → Type 0
Disjoint {A} xs ys = (x : A) → Memᴰ x xs → Memᴰ x ys → ⊥

-- the first names no value and no block that the second defines
unfoldable pub NamesNothingOf : Store → Sort → ℕ → ℕ → Type 0
NamesNothingOf s f a b =
    Disjoint (names_values s f a) (defines_values s f b)
    × Disjoint (names_blocks s f a) (defines_blocks s f b)

-- 01's premise of the laws: the same fragment, or fragments that share no operation or block and of which neither names a value or
-- block that is defined in the other. Two "are the same fragment when their numbers are the same"; they "share the operations and blocks
-- that both define"
unfoldable pub Premise : Store → Sort → ℕ → ℕ → Type 0
Premise s f a b =
    (a ≡ b)
    ⊎ (Disjoint (defines_owners s f a) (defines_owners s f b)
    × NamesNothingOf s f a b
    × NamesNothingOf s f b a)

-- ---- operations next inside

-- the operations in a list of blocks, and in an operation's regions
unfoldable pub ops_in_blocks : Store → List ℕ → List ℕ
ops_in_blocks s bs = flat_map (ops_of s) bs

unfoldable pub ops_inside : Store → ℕ → List ℕ
ops_inside s n = flat_map (λ (r : ℕ). ops_in_blocks s (blocks_of s r)) (regions_of s n)

-- the outermost operations of a fragment
unfoldable pub outermost : Store → Sort → ℕ → List ℕ
outermost s op n = n ∷ []
outermost s block n = ops_of s n
outermost s region n = ops_in_blocks s (blocks_of s n)
