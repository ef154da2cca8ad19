-- `pass_items` meets its contract: what is to be passed over is as many numbers as the count has more than were passed. Assumes nothing.
use Rattle.std.proofs.Common.{◌≡◌, ◌-◌}
use Rattle.rules.specs.Lines.{numbers, items}
use Rattle.lines.specs.Reading.{passing}
use Rattle.lines.proofs.reading.Fields.pass_items.Given as goal

abbrev pub invariant-loop : goal.invariant-loop
invariant-loop l = passing items l.fn.self ≡ passing (numbers (l.count - l.counter)) l.self
