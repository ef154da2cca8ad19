-- `numbers` meets its contract: the numbers so far, and those that follow them, are all. Assumes nothing.
use Rattle.std.proofs.Common.{length}
use Rattle.lines.proofs.Items.{Filling}
use Rattle.lines.proofs.reading.Fields.numbers.Given as goal

abbrev pub invariant-loop-x : goal.invariant-loop-x
invariant-loop-x l = Filling l.initial.self (length l.initial.list) l.list l.self l.x-index
