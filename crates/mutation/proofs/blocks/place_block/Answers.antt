-- `place_block` meets its contract: a block goes to the end of its region's range, whose word is the region's number. Assumes nothing.
use Prim.Native.Nat.{ℕ}
use native.Mathlib.Nat.{add-zero}
use mathlib.Core.Path.{ap, ◌∙◌}
use Rattle.layout.specs.Columns.{columns, block_region, block_next, region_block_first, region_block_end}
use Rattle.mutation.specs.AddedWrites.{child_placed, block_placed}
use Rattle.mutation.proofs.blocks.place_block.Goals as goal

pub returns : goal.returns
unfolding block_placed
returns c =
    let a = c.args in
    c.place_child.ensures
    ∙ ap (λ (w : ℕ). child_placed (columns a.store.now) block_region block_next region_block_first region_block_end a.region w a.m) (add-zero a.region)
