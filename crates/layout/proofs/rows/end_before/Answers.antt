-- `end_before` meets its contract: no slice stands before the first operation's. Assumes nothing.
use mathlib.Core.Path.{◌∙◌}
use Rattle.layout.specs.Columns.{columns}
use Rattle.layout.proofs.Scans.{first_end_lem, later_end}
use Rattle.layout.proofs.rows.end_before.Goals as goal

pub returns-then-n-eq0 : goal.returns-then-n-eq0
returns-then-n-eq0 c = let a = c.args in first_end_lem (columns a.store.now) a.column a.n c.if-n-eq0.true

pub returns : goal.returns
returns c = let a = c.args in c.number.ensures ∙ later_end (columns a.store.now) a.column a.n c.if-n-eq0.false
