-- `bit_set` meets its contract: a shift is a division by a power of two. Assumes nothing.
use Rattle.fragments.specs.Ignoring.{bit_set}
use borrow.Author.Rules.{rules}
use Rattle.fragments.proofs.ignoring.bit_set.Goals as goal

pub returns : goal.returns
unfolding bit_set
returns c = search rules
