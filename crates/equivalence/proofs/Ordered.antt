-- Two lists of blocks that exist are no larger than there may be blocks and regions. Assumes nothing.
use Prim.Native.Nat.{◌<◌, ◌≤◌}
use native.Mathlib.Omega.{arith}
use Rattle.layout.specs.Columns.{Cols}
use Rattle.layout.specs.Reading.{block_count, region_count}
use Rattle.layout.proofs.Laid.{Laid}
use Rattle.fragments.specs.Order.{BlocksExist}
use Rattle.equivalence.specs.Walked.{left_of, right_of, Bounded, ListsExist}
use Rattle.equivalence.specs.declared.types.BlockLists.{BlockLists}
use Rattle.equivalence.specs.declared.types.BlockLists.TheVariants.{InRegions, Single}

pub bounded : (C : Cols) → Laid C → (x : BlockLists) → ListsExist C x → Bounded x
unfolding Bounded BlocksExist left_of right_of
bounded C k (InRegions l r) h =
    let few : region_count C ≤ 256 = k.counts.regions in
    let a : l < region_count C = h.0 in
    let b : r < region_count C = h.1 in
    (omega arith, omega arith)
bounded C k (Single l r) h =
    let few : block_count C ≤ 256 = k.counts.blocks in
    let a : l < block_count C = h.0 in
    let b : r < block_count C = h.1 in
    (omega arith, omega arith)
