-- `put_digits` meets its contract: each turn puts the lowest digit of what is left before those that stand. Assumes nothing.
use native.Mathlib.Omega.{arith}
use Rattle.lines.proofs.Digits.{filling_turn, filling_ends}
use Rattle.lines.proofs.writing.LineWriter.put_digits.Goals as goal

pub loop-i-preserved : goal.loop-i-preserved
loop-i-preserved c =
    let a = c.args in
    let s = a.self.now in
    let l = c.loop-i in
    let turn = filling_turn s.lent.now s.at a.base a.count a.n c.requires.count_in_bounds l.self.lent.now l.rest l.i in
    (l.invariant.0, turn c.loop-i-test.true l.invariant.1 c.digit.result c.digit.ensures)

pub returns : goal.returns
returns c =
    let a = c.args in
    let l = c.loop-i in
    filling_ends a.self.now a.base a.count a.n c.requires.count_in_bounds l.self.lent l.invariant.0 l.rest l.i (omega arith) l.invariant.1
