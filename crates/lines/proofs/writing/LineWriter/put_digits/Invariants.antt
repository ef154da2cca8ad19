-- `put_digits` meets its contract: each turn puts the lowest digit of what is left before those that stand. Assumes nothing.
use mathlib.Core.Path.{◌≡◌}
use Rattle.lines.proofs.Digits.{Filling}
use Rattle.lines.proofs.writing.LineWriter.put_digits.Given as goal

abbrev pub invariant-loop-i : goal.invariant-loop-i
invariant-loop-i l =
    let a = l.initial.self in
    (l.self.lent.ghost_name ≡ a.lent.ghost_name) × Filling a.lent.now a.at l.base l.count l.n l.self.lent.now l.rest l.i
