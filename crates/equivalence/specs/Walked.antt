-- What is walked through: two lists of blocks, and the rules' walks over them, over regions, operations and fragments.
use Rattle.std.specs.Prelude.{ℕ, ◌≤◌, List}
use Rattle.rules.specs.Store.{Store, ops_of}
use Rattle.rules.specs.Fragments.{levels}
use Rattle.rules.specs.declared.types.Sort.{Sort}
use Rattle.rules.specs.declared.types.Sort.TheVariants.{Block as block, Region as region}
use Rattle.rules.specs.Comparison.{State, Pair, Walk, pairwise, each_pair, pair_of, pair_ops, check_ops, pass1, pass2, compare_lists, compare_regions, compare_by}
use Rattle.fragments.specs.Options.{Options, renamed_under}
use Rattle.layout.specs.Columns.{Cols}
use Rattle.fragments.specs.Order.{block_list, BlocksExist}
use Rattle.fragments.specs.declared.types.Blocks.{Blocks}
use Rattle.fragments.specs.declared.types.Blocks.TheVariants as list
use Rattle.equivalence.specs.declared.verdicts.Unequal.{Unequal}
use Rattle.equivalence.specs.declared.verdicts.Unequal.TheVariants.{FirstNEQRegions, FirstNEQBlocks}
use Rattle.equivalence.specs.declared.types.BlockLists.{BlockLists}
use Rattle.equivalence.specs.declared.types.BlockLists.TheVariants.{InRegions, Single}

-- ---- two lists of blocks

unfoldable pub left_of : BlockLists → Blocks
left_of (InRegions l r) = list.InRegion l
left_of (Single l r) = list.Single l

unfoldable pub right_of : BlockLists → Blocks
right_of (InRegions l r) = list.InRegion r
right_of (Single l r) = list.Single r

abbrev pub lefts : Store → BlockLists → List ℕ
lefts s x = block_list s (left_of x)

abbrev pub rights : Store → BlockLists → List ℕ
rights s x = block_list s (right_of x)

-- the first unequal pair, where one list is longer than the other
unfoldable pub pair_of_lists : BlockLists → Pair
pair_of_lists (InRegions l r) = pair_of region l r
pair_of_lists (Single l r) = pair_of block l r

unfoldable pub neq_of : BlockLists → ℕ → Unequal
neq_of (InRegions l r) n = FirstNEQRegions l r n
neq_of (Single l r) n = FirstNEQBlocks l r n

-- no larger than there may be blocks and regions
unfoldable pub Bounded : BlockLists → Type 0
Bounded (InRegions l r) = (l ≤ 256) × (r ≤ 256)
Bounded (Single l r) = (l ≤ 256) × (r ≤ 256)

-- two regions or two blocks of the store
abbrev pub ListsExist : Cols → BlockLists → Type 0
ListsExist C x = BlocksExist C (left_of x) × BlocksExist C (right_of x)

-- ---- walks: types are read as the present ones, and children are those of the store itself

-- over two regions, over two operations that are paired, and over two lists of blocks
unfoldable pub region_walk : Store → Options → ℕ → ℕ → State → Walk
region_walk s o l r st = compare_regions levels (renamed_under o s) o.ignore l r st

unfoldable pub op_walk : Store → Options → ℕ → ℕ → State → Walk
op_walk s o l r st = check_ops (renamed_under o s) (compare_regions levels (renamed_under o s) o.ignore) l r st

-- over the operations of two blocks that are paired
unfoldable pub ops_walk : Store → Options → ℕ → ℕ → State → Walk
ops_walk s o l r st = each_pair (op_walk s o) (ops_of s l) (ops_of s r) st

unfoldable pub lists_walk : Store → Options → BlockLists → State → Walk
lists_walk s o x st = compare_lists (renamed_under o s) o.ignore (op_walk s o) (pair_of_lists x) (lefts s x) (rights s x) st

-- its first two passes, and the second in two blocks
abbrev pub pass1_walk : Store → Options → BlockLists → State → Walk
pass1_walk s o x st = pass1 (renamed_under o s) o.ignore (pair_of_lists x) (lefts s x) (rights s x) st

abbrev pub pairs_walk : Store → Options → ℕ → ℕ → State → Walk
pairs_walk s o l r st = pairwise (pair_ops (renamed_under o s) o.ignore) (pair_of block l r) (ops_of s l) (ops_of s r) st

abbrev pub pass2_walk : Store → Options → BlockLists → State → Walk
pass2_walk s o x st = pass2 (renamed_under o s) o.ignore (lefts s x) (rights s x) st

-- over two fragments of one sort
abbrev pub fragments_walk : Store → Options → Sort → ℕ → ℕ → State → Walk
fragments_walk s o f l r st = compare_by (renamed_under o s) o.ignore f l r st
