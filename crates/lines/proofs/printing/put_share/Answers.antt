-- `put_share` meets its contract: its two pieces are the line. Assumes nothing.
use native.Mathlib.Omega.{arith}
use Rattle.lines.proofs.Joined.{then, said}
use Rattle.lines.proofs.Lines.{share_line_lem}
use Rattle.lines.proofs.printing.put_share.Goals as goal

pub returns : goal.returns
returns c =
    let a = c.args in
    let line = share_line_lem a.equal a.all c.per_cent-share.result c.per_cent-share.ensures in
    said (then c.put_text.ensures c.put_last.ensures (omega arith)) line
