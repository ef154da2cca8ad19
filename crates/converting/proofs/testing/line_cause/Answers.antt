-- `line_cause` meets its contract: its tests are the rules', in their order. Assumes nothing.
use Rattle.std.proofs.Common.{sym}
use Rattle.rules.specs.Causes.{cause_of}
use Rattle.converting.proofs.Tests.{line_long, line_bad, line_inherent, line_passes}
use Rattle.converting.proofs.testing.line_cause.Goals as goal

pub returns-then-line-gt-MAX_LINE : goal.returns-then-line-gt-MAX_LINE
unfolding cause_of
returns-then-line-gt-MAX_LINE c = record { tests = line_long c.args.edition c.args.line.now c.if-line-gt-MAX_LINE.true; short = tt }

pub returns-then-not-is_meant : goal.returns-then-not-is_meant
unfolding cause_of
returns-then-not-is_meant c =
    let bad = line_bad c.args.edition c.args.line.now c.if-line-gt-MAX_LINE.false (sym c.if-not-is_meant.ensures) in
    record { tests = bad; short = tt }

pub returns-then-is_inherent_line : goal.returns-then-is_inherent_line
unfolding cause_of
returns-then-is_inherent_line c =
    let inherent = line_inherent c.args.edition c.args.line.now c.if-line-gt-MAX_LINE.false (sym c.if-not-is_meant.ensures) in
    record { tests = inherent (sym c.if-is_inherent_line.ensures); short = tt }

pub returns : goal.returns
unfolding cause_of
returns c =
    let passes = line_passes c.args.edition c.args.line.now c.if-line-gt-MAX_LINE.false (sym c.if-not-is_meant.ensures) in
    record { tests = passes (sym c.if-is_inherent_line.ensures); short = c.if-line-gt-MAX_LINE.false }
