-- `put_hashes` meets its contract: its four pieces are the line. Assumes nothing.
use native.Mathlib.Omega.{arith}
use Rattle.lines.proofs.Joined.{then, said}
use Rattle.lines.proofs.Lines.{hashes_line_lem}
use Rattle.lines.proofs.printing.put_hashes.Goals as goal

pub returns : goal.returns
returns c =
    let a = c.args in
    let two = then c.put_hexadecimal.ensures c.put_byte.ensures (omega arith) in
    let three = then two c.put_hexadecimal-2.ensures (omega arith) in
    said (then three c.put_byte-2.ensures (omega arith)) (hashes_line_lem a.l a.r)
