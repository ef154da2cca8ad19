-- `put_decimal` meets its contract: it writes as many digits as the number has. Assumes nothing.
use native.Mathlib.Omega.{arith}
use Rattle.lines.proofs.Digits.{counted_digits, at_most_ten}
use Rattle.lines.proofs.writing.LineWriter.put_decimal.Goals as goal

pub put_digits-requires : goal.put_digits-requires
put_digits-requires c =
    let few = at_most_ten c.args.n c.digit_count-count.result c.digit_count-count.ensures in
    record { count_in_bounds = omega arith; base_nonzero = omega arith; base_bound = omega arith }

pub returns : goal.returns
returns c = counted_digits c.args.n c.put_digits.ensures c.digit_count-count.ensures
