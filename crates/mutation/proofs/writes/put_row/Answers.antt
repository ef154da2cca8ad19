-- `put_row` meets its contract: after each turn one word more of the row is in its column. Assumes nothing.
use Rattle.layout.specs.Columns.{columns}
use Rattle.mutation.proofs.RowWritten.{row_turn, row_done}
use Rattle.mutation.proofs.writes.put_row.Goals as goal

pub loop-j-preserved : goal.loop-j-preserved
loop-j-preserved c =
    let l = c.loop-j in
    let a = c.args in
    row_turn (columns a.store.now) a.first a.n a.row.now (columns l.store) l.j l.invariant _ c.loop-j-test.true c.put.ensures

pub returns : goal.returns
returns c =
    let l = c.loop-j in
    let a = c.args in
    row_done (columns a.store.now) a.first a.n a.row.now (columns l.store) l.j l.invariant c.loop-j-test.false
