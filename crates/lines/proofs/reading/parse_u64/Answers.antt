-- `parse_u64` meets its contract: the number of the digits so far, and of those behind them, is the whole. Assumes nothing.
use Rattle.std.proofs.Common.{◌+◌, ◌-◌, ◌*◌, ◌<◌, ◌≤◌, ◌^◌, ◌∙◌, get_or, sym, arith}
use Rattle.lines.proofs.Numbers.{starts_badly, reading_ends, no_digit, over_limit, reading_turn}
use Rattle.lines.proofs.reading.parse_u64.Goals as goal

pub returns-then-not-starts_well : goal.returns-then-not-starts_well
returns-then-not-starts_well c = starts_badly _ c.args.digits.now (sym c.starts_well.ensures ∙ c.if-not-starts_well.true)

pub returns-then-not-is_digit : goal.returns-then-not-is_digit
returns-then-not-is_digit c =
    no_digit c.args.digits.now _ c.loop-b.invariant c.loop-b-test.true (sym c.is_digit.ensures ∙ c.if-not-is_digit.true)

pub returns-in_err-checked_mul : goal.returns-in_err-checked_mul
returns-in_err-checked_mul c =
    let large : 2 ^ 64 ≤ c.loop-b.n * 10 + (get_or c.args.digits.now c.loop-b.b-index 0 - 48) = omega (arith, c.in_err-checked_mul.ensures) in
    rw c.from_residual.ensures
    (over_limit c.args.digits.now _ c.loop-b.invariant c.loop-b-test.true (sym c.is_digit.ensures ∙ c.if-not-is_digit.false) large)

pub returns-in_err-n : goal.returns-in_err-n
returns-in_err-n c =
    let large : 2 ^ 64 ≤ c.loop-b.n * 10 + (get_or c.args.digits.now c.loop-b.b-index 0 - 48) = omega (arith, c.in_err-n.ensures, c.in_ok-checked_mul.ensures) in
    rw c.from_residual-in_err-n.ensures
    (over_limit c.args.digits.now _ c.loop-b.invariant c.loop-b-test.true (sym c.is_digit.ensures ∙ c.if-not-is_digit.false) large)

pub loop-b-preserved : goal.loop-b-preserved
loop-b-preserved c =
    let fits : c.loop-b.n * 10 + (get_or c.args.digits.now c.loop-b.b-index 0 - 48) < 2 ^ 64 = omega (arith, c.in_ok-n.ensures, c.in_ok-checked_mul.ensures) in
    let turn = reading_turn c.args.digits.now (2 ^ 64) c.loop-b.invariant c.loop-b-test.true (sym c.is_digit.ensures ∙ c.if-not-is_digit.false) fits in
    rw (c.in_ok-n.ensures.1, c.in_ok-checked_mul.ensures.1) turn

pub returns : goal.returns
returns c =
    let well = sym c.starts_well.ensures ∙ c.if-not-starts_well.false in
    reading_ends c.args.digits.now _ c.loop-b.invariant well c.loop-b-test.false c.loop-b.invariant.small
