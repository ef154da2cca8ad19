-- `rows_laid` meets its contract: a scan that ends at the first row that is not laid out. Assumes nothing.
use Rattle.layout.specs.Columns.{columns, at, counts}
use Rattle.layout.specs.Soundness.{row_laid}
use Rattle.layout.proofs.Scans.{Scanned}
use Rattle.layout.proofs.checks.rows_laid.Given as goal

abbrev pub invariant-loop-i : goal.invariant-loop-i
invariant-loop-i l = Scanned (row_laid (columns l.store) l.table) (at (columns l.store) counts l.table) l.count l.i
