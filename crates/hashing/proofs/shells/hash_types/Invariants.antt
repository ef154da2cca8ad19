-- `hash_types` meets its contract: what is left to feed into the word as it is, is the whole fed into the word as it was. Assumes nothing.
use Rattle.std.proofs.Common.{ℕ, List}
use Rattle.rules.specs.Types.{present}
use Rattle.rules.specs.Hash.{leaf}
use Rattle.fragments.specs.Index.{list_in}
use Rattle.hashing.proofs.Bytes.{LeftOf}
use Rattle.hashing.proofs.shells.hash_types.Given as goal

-- what a type feeds: its present type
abbrev pub type_bytes : List ℕ → ℕ → List ℕ
type_bytes index t = leaf (present (list_in index) t)

abbrev pub invariant-loop-t : goal.invariant-loop-t
invariant-loop-t l = LeftOf (type_bytes l.index) l.types l.fn.state.word l.t-index l.state.word
