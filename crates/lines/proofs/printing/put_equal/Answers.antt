-- `put_equal` meets its contract: its two pieces are the line. Assumes nothing.
use native.Mathlib.Omega.{arith}
use Rattle.lines.proofs.Joined.{then, said}
use Rattle.lines.proofs.Lines.{equal_line_lem}
use Rattle.lines.proofs.printing.put_equal.Goals as goal

pub returns : goal.returns
returns c =
    said (then c.put_text.ensures c.put_last.ensures (omega arith)) (equal_line_lem c.args.paired)
