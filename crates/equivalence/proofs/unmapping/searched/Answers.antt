-- `searched` meets its contract: it looks at words of blocks that exist, and then at words of operations that exist. Assumes nothing.
use Rattle.std.proofs.Common.{◌≤◌, refl, arith}
use Rattle.layout.specs.Columns.{Cols, columns}
use Rattle.layout.proofs.Laid.{Laid, laid_facts}
use Rattle.equivalence.proofs.Searching.{block_most, op_most, blocks_seen, ops_seen, at_first, further}
use Rattle.equivalence.proofs.unmapping.searched.Goals as goal

pub seen-blocks-requires-clause-count_bound : goal.seen-blocks-requires-clause-count_bound
seen-blocks-requires-clause-count_bound c =
    let cols : Cols = columns c.args.store.now in
    omega (arith, c.number.ensures, block_most cols (laid_facts cols c.requires.sound.laid))

pub seen-ops-requires-clause-count_bound : goal.seen-ops-requires-clause-count_bound
seen-ops-requires-clause-count_bound c =
    let cols : Cols = columns c.args.store.now in
    omega (arith, c.number-2.ensures, op_most cols (laid_facts cols c.requires.sound.laid))

pub look-requires-clause-owners_at : goal.look-requires-clause-owners_at
look-requires-clause-owners_at c =
    let cols : Cols = columns c.args.store.now in
    blocks_seen cols (laid_facts cols c.requires.sound.laid) _ _ _ c.number.ensures c.seen-blocks.ensures

pub look-requires-clause-searched : goal.look-requires-clause-searched
look-requires-clause-searched c =
    let cols : Cols = columns c.args.store.now in
    at_first cols (laid_facts cols c.requires.sound.laid) c.args.mapping.now c.args.paired c.requires.entered_by _ _ refl refl refl

pub look-requires-2-clause-owners_at : goal.look-requires-2-clause-owners_at
look-requires-2-clause-owners_at c =
    let cols : Cols = columns c.args.store.now in
    ops_seen cols (laid_facts cols c.requires.sound.laid) _ _ _ c.number-2.ensures c.seen-ops.ensures

pub look-requires-2-clause-searched : goal.look-requires-2-clause-searched
look-requires-2-clause-searched c =
    let cols : Cols = columns c.args.store.now in
    let laid : Laid cols = laid_facts cols c.requires.sound.laid in
    let less : c.seen-blocks.result.end ≤ c.seen-ops.result.start =
    omega (arith, c.seen-blocks.ensures.ends, c.number.ensures, block_most cols laid, c.seen-ops.ensures.begins) in
    further cols laid c.args.mapping.now _ _ _ less c.look.ensures
