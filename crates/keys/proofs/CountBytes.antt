-- A list of blocks is short: it has those of a region, or one. Assumes nothing.
use Prim.Native.Nat.{◌≤◌}
use native.Mathlib.Omega.{arith}
use mathlib.Core.Bool.{true}
use mathlib.Core.Path.{◌≡◌}
use lib.ListN.{length}
use Rattle.rules.specs.Store.{Store, sound}
use Rattle.rules.proofs.Keys.Fitting.{blocks_few}
use Rattle.fragments.specs.Order.{block_list}
use Rattle.fragments.specs.declared.types.Blocks.{Blocks}
use Rattle.fragments.specs.declared.types.Blocks.TheVariants.{InRegion, Single}

pub listed_few : (s : Store) → sound s ≡ true → (blocks : Blocks) → length (block_list s blocks) ≤ 4096
unfolding block_list
listed_few s sd (InRegion r) = blocks_few s sd r
listed_few s sd (Single b) = omega arith
