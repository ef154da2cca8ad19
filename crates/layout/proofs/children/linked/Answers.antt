-- `linked` meets its contract: 0 leads to nothing, and another number to itself. Assumes nothing.
use mathlib.Core.Path.{sym, ap}
use Rattle.layout.specs.Children.{link_found}
use Rattle.layout.proofs.Linking.{link_at}
use Rattle.layout.proofs.children.linked.Goals as goal

pub returns-then-link-eq0 : goal.returns-then-link-eq0
unfolding link_found
returns-then-link-eq0 c = sym (ap link_found c.if-link-eq0.true)

pub returns : goal.returns
returns c = link_at _ c.if-link-eq0.false
