-- `name_by` meets its contract by its one test: a word that is set is as far above 2,048 as the walk number is above n. Assumes nothing.
use native.Mathlib.Omega.{arith}
use Rattle.fragments.proofs.Naming.{name_unset, name_set}
use Rattle.fragments.proofs.words.name_by.Goals as goal

pub returns-then-word-eq0 : goal.returns-then-word-eq0
returns-then-word-eq0 c = name_unset c.args.word c.args.n c.if-word-eq0.true

pub returns : goal.returns
returns c = name_set c.args.word c.args.n _ c.if-word-eq0.false (omega arith) (omega (arith, c.ranges.word.fits, c.requires))
