-- A list of blocks that is walked through.
use Rattle.std.specs.Prelude.{ℕ, ◌<◌, List, [], ◌∷◌}
use Rattle.std.specs.Coded.{le_prop}
use Rattle.rules.specs.Store.{Store, blocks_of}
use Rattle.layout.specs.Columns.{Cols}
use Rattle.layout.specs.Reading.{block_count, region_count}
use Rattle.fragments.specs.declared.types.Blocks.{Blocks}
use Rattle.fragments.specs.declared.types.Blocks.TheVariants.{InRegion, Single}

unfoldable pub block_list : Store → Blocks → List ℕ
block_list s (InRegion r) = blocks_of s r
block_list s (Single b) = b ∷ []

-- a region or a block of the store
unfoldable pub BlocksExist : Cols → Blocks → Type 0
BlocksExist C (InRegion r) = r < region_count C
BlocksExist C (Single b) = b < block_count C

-- that can be so in one way only
pub blocks_exist_prop : (C : Cols) (blocks : Blocks) → IsProp (BlocksExist C blocks)
unfolding BlocksExist
blocks_exist_prop C (InRegion r) = le_prop
blocks_exist_prop C (Single b) = le_prop
