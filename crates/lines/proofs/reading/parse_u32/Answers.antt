-- `parse_u32` meets its contract: it is the number within 64 bits, if that is within 32 too. Assumes nothing.
use Rattle.std.proofs.Common.{◌^◌, ◌∙◌, arith}
use Rattle.lines.proofs.Numbers.{below_none, below_some, narrowed}
use Rattle.lines.proofs.reading.parse_u32.Goals as goal

pub returns-in_err-n : goal.returns-in_err-n
returns-in_err-n c = rw c.from_residual.ensures (below_none (2 ^ 32) (2 ^ 64) (omega arith) c.args.digits.now c.in_err-n.ensures)

pub returns : goal.returns
returns c =
    rw c.ok.ensures.value
    (below_some (2 ^ 32) (2 ^ 64) (omega arith) c.args.digits.now c.in_ok-n.n c.in_ok-n.ensures ∙ narrowed c.in_ok-n.n (2 ^ 32) c.try_from.result c.try_from.ensures)
