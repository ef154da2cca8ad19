-- `parse_u64` meets its contract: the number of the digits so far, and of those behind them, is the whole. Assumes nothing.
use Rattle.lines.proofs.Numbers.{Reading}
use Rattle.lines.proofs.reading.parse_u64.Given as goal

abbrev pub invariant-loop-b : goal.invariant-loop-b
invariant-loop-b l = Reading l.digits l.n l.b-index
