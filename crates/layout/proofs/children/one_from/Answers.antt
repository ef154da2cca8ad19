-- `one_from` meets its contract: the one is found from its own number and any before it on. Assumes nothing.
use mathlib.Core.Path.{refl}
use borrow.Author.Tests.{le-leb, lt-leb}
use Rattle.layout.specs.Children.{first_from}
use Rattle.layout.proofs.children.one_from.Goals as goal

pub returns-then-from-n : goal.returns-then-from-n
unfolding first_from
returns-then-from-n c = rw (le-leb c.args.from c.args.n c.if-from-n.true) refl

pub returns : goal.returns
unfolding first_from
returns c = rw (lt-leb c.args.from c.args.n c.if-from-n.false) refl
