-- The steps of a walk, part by part.
use Rattle.std.specs.Prelude.{◌≡◌, ℕ, Bool, true, List, []}
use Rattle.std.specs.List.{flat_map}
use Rattle.rules.specs.Store.{Store, ops_of, regions_of}
use Rattle.rules.specs.declared.types.Owner.TheVariants.{Op as of_op, Block as of_block}
use Rattle.rules.specs.Fragments.{Step, full_op, shells, list_steps, region_steps, levels}
use Rattle.rules.specs.declared.types.Sort.{Sort}
use Rattle.rules.specs.declared.types.Sort.TheVariants.{Op as op}

-- the shells of a list of blocks
unfoldable pub block_shells : List ℕ → List Step
block_shells bs = shells of_block bs

-- of the operations in a block
unfoldable pub op_shells : Store → ℕ → List Step
op_shells s b = shells of_op (ops_of s b)

-- of an operation in full, of those in a block, and of a list of blocks, where a walk begins
unfoldable pub full_steps : Store → ℕ → List Step
full_steps s n = full_op s (region_steps levels s) n

unfoldable pub ops_in_full : Store → ℕ → List Step
ops_in_full s b = flat_map (full_steps s) (ops_of s b)

unfoldable pub listed_steps : Store → List ℕ → List Step
listed_steps s bs = list_steps s (full_steps s) bs

-- where this is true, the fragment is an operation without regions
abbrev pub HoldsNothing : Store → Sort → ℕ → Bool → Type 0
HoldsNothing s f n b = b ≡ true → (f ≡ op) × (regions_of s n ≡ [])
