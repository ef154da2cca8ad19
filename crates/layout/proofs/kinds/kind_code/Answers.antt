-- `kind_code` meets its contract: 64 is added where the flag is set. Assumes nothing.
use mathlib.Core.Path.{sym, ap}
use Rattle.layout.specs.Reading.{kind_code}
use Rattle.layout.proofs.kinds.kind_code.Goals as goal

pub returns-then-inherent : goal.returns-then-inherent
unfolding kind_code
returns-then-inherent c = sym (ap (kind_code c.args.kind) c.if-inherent.true)

pub returns : goal.returns
unfolding kind_code
returns c = sym (ap (kind_code c.args.kind) c.if-inherent.false)
