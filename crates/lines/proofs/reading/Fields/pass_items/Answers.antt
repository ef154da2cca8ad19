-- `pass_items` meets its contract: what is to be passed over is as many numbers as the count has more than were passed. Assumes nothing.
use Rattle.std.proofs.Common.{◌∙◌}
use Rattle.lines.proofs.Items.{pass_uncounted, pass_counted, pass_broken_off, pass_turn, pass_done}
use Rattle.lines.proofs.reading.Fields.pass_items.Goals as goal

pub returns-in_err-count : goal.returns-in_err-count
returns-in_err-count c = rw c.from_residual.ensures (pass_uncounted c.args.self.now c.in_err-count.ensures.reads)

pub loop-init : goal.loop-init
loop-init c = pass_counted c.args.self.now c.in_ok-count.ensures.reads

pub returns-in_err-number : goal.returns-in_err-number
returns-in_err-number c =
    rw c.from_residual-in_err-number.ensures (c.loop.invariant ∙ pass_broken_off c.loop.self c.loop-test.true c.in_err-number.ensures.reads)

pub loop-preserved : goal.loop-preserved
loop-preserved c = c.loop.invariant ∙ pass_turn c.loop.self c.loop-test.true c.in_ok-number.ensures.reads

pub returns : goal.returns
returns c = c.loop.invariant ∙ pass_done c.loop.self c.loop-test.false
