-- `numbers` meets its contract: the numbers so far, and those that follow them, are all. Assumes nothing.
use Rattle.lines.proofs.Items.{filling_bad, filling_done, filling_turn}
use Rattle.lines.proofs.reading.Fields.numbers.Goals as goal

pub returns-in_err-x : goal.returns-in_err-x
returns-in_err-x c = rw c.from_residual.ensures (filling_bad _ _ c.loop-x.list c.loop-x.self c.loop-x.x-index c.loop-x.invariant c.loop-x-test.true c.in_err-x.ensures.reads)

pub loop-x-preserved : goal.loop-x-preserved
loop-x-preserved c =
    filling_turn _ _ c.loop-x.list c.loop-x.self c.loop-x.x-index c.loop-x.invariant c.loop-x-test.true c.in_ok-x.field-0 c.number.new.self c.in_ok-x.ensures.reads

pub returns : goal.returns
returns c = filling_done _ _ c.loop-x.list c.loop-x.self c.loop-x.x-index c.loop-x.invariant c.loop-x-test.false
