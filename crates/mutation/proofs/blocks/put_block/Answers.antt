-- `put_block` meets its contract: the new number is read before anything is written, and the row and the place in the region leave the counts as they were. Assumes nothing.
use Prim.Native.Nat.{ℕ}
use native.Mathlib.Omega.{arith}
use mathlib.Core.List.{List}
use mathlib.Core.Path.{◌≡◌, ap, ap₂, ◌∙◌}
use lib.ListN.{length}
use Rattle.layout.specs.Columns.{Cols, columns}
use Rattle.layout.specs.Reading.{block_count, value_count, owner_code}
use Rattle.mutation.specs.AddedWrites.{with_values, block_written, block_placed, with_block}
use Rattle.mutation.proofs.NewBlock.{counts_placed}
use Rattle.mutation.proofs.blocks.put_block.Goals as goal

-- the columns once the row and the place in the region are written
placed : (C X Y : Cols) (m region location : ℕ) (types : List ℕ) → X ≡ block_written C m region location (length types) → Y ≡ block_placed X region m
    → m ≡ block_count C
    → Y ≡ block_placed (block_written C (block_count C) region location (length types)) region (block_count C)
placed C X Y m region location types row place e =
    place
    ∙ ap₂ (λ (Z : Cols) (k : ℕ). block_placed Z region k)
    (row ∙ ap (λ (k : ℕ). block_written C k region location (length types)) e) e

pub put_values-requires : goal.put_values-requires
unfolding block_count value_count
put_values-requires c =
    let a = c.args in
    let there = placed (columns a.store.now) _ _ _ a.region a.location a.types.now c.put_block_row.ensures
    c.place_block.ensures c.number-m.ensures in
    let e : value_count (columns c.place_block.new.store) ≡ value_count (columns a.store.now)
    = ap value_count there ∙ counts_placed (columns a.store.now)
    (record { region = a.region; location = a.location; types = a.types.now }) 3 in
    omega arith

pub returns : goal.returns
unfolding with_block with_values owner_code block_count
returns c = cc
