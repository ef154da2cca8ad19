-- `put_unequal` meets its contract: its four pieces are the line. Assumes nothing.
use native.Mathlib.Omega.{arith}
use Rattle.lines.proofs.Joined.{then, said}
use Rattle.lines.proofs.Lines.{unequal_line_lem}
use Rattle.lines.proofs.printing.put_unequal.Goals as goal

pub returns : goal.returns
returns c =
    let a = c.args in
    let two = then c.put_sort.ensures c.put_field.ensures (omega arith) in
    let three = then two c.put_field-2.ensures (omega arith) in
    said (then three c.put_last.ensures (omega arith)) (unequal_line_lem a.sort a.l a.r a.paired)
