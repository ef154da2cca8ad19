-- `block_in_time` meets its contract: a block that has a walk number is numbered, and another one comes in time where it lies outside. Assumes nothing.
use Rattle.std.proofs.Common.{arith}
use Rattle.rules.specs.Fragments.{defines_blocks}
use Rattle.layout.specs.Columns.{columns}
use Rattle.layout.specs.Reading.{store_in}
use Rattle.layout.proofs.Laid.{laid_facts}
use Rattle.copying.proofs.InTime.{numbered_timely, unnumbered_timely}
use Rattle.copying.proofs.early.block_in_time.Goals as goal

pub block_name-requires : goal.block_name-requires
block_name-requires c = omega (arith, c.requires, (laid_facts (columns c.args.whole.now.store.now) c.args.whole.now.sound.laid).counts.blocks)

pub returns-in-WalkNumber : goal.returns-in-WalkNumber
returns-in-WalkNumber c =
    λ N h. numbered_timely (defines_blocks (store_in c.args.whole.now.store.now) c.args.whole.now.sort c.args.whole.now.n) N.blocks c.args.b (c.block_name.ensures _ N h) c.in-WalkNumber.is

pub returns-in-StoreNumber : goal.returns-in-StoreNumber
returns-in-StoreNumber c =
    λ N h.
    unnumbered_timely (defines_blocks (store_in c.args.whole.now.store.now) c.args.whole.now.sort c.args.whole.now.n) N.blocks c.args.b (c.block_name.ensures _ N h) c.in-StoreNumber.is c.block_inside.ensures
