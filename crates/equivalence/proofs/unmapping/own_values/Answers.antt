-- `own_values` meets its contract: both words are read off the row of the block or operation whose word it is. Assumes nothing.
use Rattle.std.proofs.Common.{◌-◌, ◌<◌, ◌≤◌, arith}
use Rattle.layout.specs.Columns.{Cols, columns}
use Rattle.layout.proofs.Laid.{Laid, laid_facts}
use Rattle.equivalence.proofs.Searching.{block_values, op_values}
use Rattle.equivalence.proofs.unmapping.own_values.Goals as goal

pub returns-then-i-lt-OP_ENTRIES : goal.returns-then-i-lt-OP_ENTRIES
returns-then-i-lt-OP_ENTRIES c =
    let cols : Cols = columns c.args.store.now in
    let laid : Laid cols = laid_facts cols c.requires.sound.laid in
    block_values cols laid c.args.i c.requires.owner_at _ _ c.if-i-lt-OP_ENTRIES.true c.at.ensures c.at-then-i-lt-OP_ENTRIES.ensures

pub at-requires-2 : goal.at-requires-2
at-requires-2 c =
    let cols : Cols = columns c.args.store.now in
    let laid : Laid cols = laid_facts cols c.requires.sound.laid in
    let op_small : 2304 ≤ c.args.i → c.args.i - 2304 < 512 = λ l. omega (arith, laid.counts.ops, c.requires.owner_at.op l) in
    record { column_lt_column_count = omega arith; n_bound = op_small (omega arith) }

pub at-requires-3 : goal.at-requires-3
at-requires-3 c =
    let cols : Cols = columns c.args.store.now in
    let laid : Laid cols = laid_facts cols c.requires.sound.laid in
    let op_small : 2304 ≤ c.args.i → c.args.i - 2304 < 512 = λ l. omega (arith, laid.counts.ops, c.requires.owner_at.op l) in
    record { column_lt_column_count = omega arith; n_bound = op_small (omega arith) }

pub returns : goal.returns
returns c =
    let cols : Cols = columns c.args.store.now in
    let laid : Laid cols = laid_facts cols c.requires.sound.laid in
    op_values cols laid c.args.i c.requires.owner_at _ _ (omega arith) c.at-2.ensures c.at-3.ensures
