-- `ops_hold` meets its contract: a scan that ends at the first operation that breaks the rules. Assumes nothing.
use Rattle.layout.specs.Columns.{columns}
use Rattle.layout.specs.Reading.{op_count}
use Rattle.layout.specs.Soundness.{op_rules}
use Rattle.layout.proofs.Scans.{Scanned}
use Rattle.layout.proofs.ruled.ops_hold.Given as goal

abbrev pub invariant-loop-n : goal.invariant-loop-n
invariant-loop-n l = Scanned (op_rules (columns l.store)) (op_count (columns l.store)) l.ops l.n
