-- What the code tells of a walk: its answer and the words of the mapping stand for the rules' answer and mapping.
use Rattle.std.specs.Prelude.{ℕ, ◌≤◌, List, Result, Ok, Err, ◌≡◌}
use Rattle.rules.specs.declared.types.Sort.TheVariants.{Op as op, Block as block, Region as region}
use Rattle.rules.specs.Comparison.{State, Walk, standing, pair_of}
use Rattle.rules.specs.Answers.{Compared, Comparison, eq, neq, refused, comparison_of}
use Rattle.rules.specs.declared.types.Cause.{Cause}
use Rattle.equivalence.specs.MappingWords.{mapping_of}
use Rattle.equivalence.specs.declared.verdicts.Unequal.{Unequal}
use Rattle.equivalence.specs.declared.verdicts.Unequal.TheVariants.{FirstNEQOps, FirstNEQRegions, FirstNEQBlocks}

-- 01's answer and numbers for each case
unfoldable pub answer_of : Result ℕ Unequal → Compared
answer_of (Ok n) = eq n
answer_of (Err (FirstNEQOps l r n)) = neq (pair_of op l r) n
answer_of (Err (FirstNEQRegions l r n)) = neq (pair_of region l r) n
answer_of (Err (FirstNEQBlocks l r n)) = neq (pair_of block l r) n

-- the answer of a call, which may be refused
unfoldable pub compared_of : Result (Result ℕ Unequal) Cause → Compared
compared_of (Ok answer) = answer_of answer
compared_of (Err cause) = refused cause

-- the state of a walk: the words of the mapping, and so many pairs entered
unfoldable pub state_of : List ℕ → ℕ → State
state_of b n = record { mapping = mapping_of b; paired = n }

-- where a walk has come to: its answer, and the mapping with the entries made so far
unfoldable pub outcome : Walk → Comparison
outcome w = comparison_of w (standing w).mapping

-- the answer and the words tell where the walk has come to
unfoldable pub Compares : Walk → Result ℕ Unequal → List ℕ → Type 0
Compares w q b = outcome w ≡ record { answer = answer_of q; mapping = mapping_of b }

-- a walk enters no more than there are operations and blocks
abbrev pub max_paired : ℕ
max_paired = 768

abbrev pub PairedFits : Walk → Type 0
PairedFits w = (standing w).paired ≤ max_paired
