-- `line_tested` meets its contract: a line that passes its tests makes the whole longer. Assumes nothing.
use Rattle.std.proofs.Common.{ap, ◌∙◌}
use Rattle.std.specs.Option.{option_or}
use Rattle.converting.proofs.Tests.{line_refused, line_passed}
use Rattle.converting.proofs.testing.line_tested.Goals as goal

pub returns-in-Err : goal.returns-in-Err
returns-in-Err c =
    let a = c.args in
    let tests = c.line_cause in
    line_refused a.edition a.line.now a.number a.sizes c.in-Err.cause tests.result tests.ensures.tests c.in-Err.is

pub returns : goal.returns
returns c =
    let a = c.args in
    let tests = c.line_cause in
    let length = c.converted_length-length.ensures in
    let passed = line_passed a.edition a.line.now a.number a.sizes tests.result _ _ tests.ensures.tests in
    passed c.in_default.is length.length length.most (c.or.ensures ∙ ap (option_or a.sizes.too_long) c.then_some-long.ensures)
