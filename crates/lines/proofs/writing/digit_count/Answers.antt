-- `digit_count` meets its contract: it is one more than the power of ten that the number reaches. Assumes nothing.
use Rattle.std.proofs.Common.{◌<◌, sym, arith}
use Rattle.lines.proofs.Digits.{no_tenths, between_powers}
use Rattle.lines.proofs.writing.digit_count.Goals as goal

pub returns-in-Some : goal.returns-in-Some
returns-in-Some c =
    let p = c.in-Some.ensures in
    sym (between_powers c.in-Some.k c.args.n 10 p.power_le p.next_power_gt p.bound)

pub returns-in-None : goal.returns-in-None
returns-in-None c =
    let few : c.args.n < 10 = omega (arith, c.in-None.ensures.none) in
    sym (no_tenths c.args.n 9 few)
