-- `put_row` meets its contract: after each turn one word more of the row is in its column. Assumes nothing.
use Rattle.layout.specs.Columns.{columns}
use Rattle.mutation.proofs.RowWritten.{Writing}
use Rattle.mutation.proofs.writes.put_row.Given as goal

abbrev pub invariant-loop-j : goal.invariant-loop-j
invariant-loop-j l = Writing (columns l.initial.store) l.first l.n l.row (columns l.store) l.j
