-- `hash_uses` meets its contract: what is left to feed into the word as it is, is the whole fed into the word as it was. Assumes nothing.
use Rattle.hashing.proofs.Naming.{UsesLeft}
use Rattle.hashing.proofs.names.hash_uses.Given as goal

abbrev pub invariant-loop-n : goal.invariant-loop-n
invariant-loop-n g l = UsesLeft (goal.F-post g l.name) l.list l.fn.state.word l.n-index l.state.word
