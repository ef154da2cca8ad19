-- `kind_from` meets its contract: 64 is taken away where it is in the word. Assumes nothing.
use mathlib.Core.Path.{refl}
use borrow.Author.Tests.{le-leb, lt-leb}
use Rattle.layout.specs.Reading.{kind_from}
use Rattle.layout.proofs.kinds.kind_from.Goals as goal

pub returns-then-word-ge64 : goal.returns-then-word-ge64
unfolding kind_from
returns-then-word-ge64 c = rw (le-leb 64 c.args.word c.if-word-ge64.true) refl

pub returns : goal.returns
unfolding kind_from
returns c = rw (lt-leb 64 c.args.word c.if-word-ge64.false) refl
