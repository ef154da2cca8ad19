-- The steps of a walk that tell of something, the first step first: the shells of operations and blocks, and what operations name. Where a list of
-- shells begins there is none.
use Rattle.std.specs.Prelude.{◌≡◌, refl, ◌==◌, cond, ℕ, ◌+◌, ◌<◌, ◌≤◌, List, [], ◌∷◌, ◌++◌, length}
use Rattle.std.specs.Coded.{Coded, Coded-set, code_by, coded×, coded_ℕ, coded_list}
use Rattle.std.specs.List.{flat_map}
use Rattle.rules.specs.declared.types.Owner.{Owner}
use Rattle.rules.specs.declared.types.Owner.TheVariants.{Op as of_op, Block as of_block}
use Rattle.rules.specs.Fragments.{shell, names, counted, steps, step_defines}
use Rattle.rules.specs.declared.types.Sort.TheVariants.{Op as op}
use Rattle.rules.specs.Fragments as rules
use Rattle.layout.specs.Columns.{Cols}
use Rattle.layout.specs.Reading.{op_count, block_count, store_in}
use Rattle.copying.specs.declared.steps.Step.{Step}
use Rattle.copying.specs.declared.steps.Step.TheVariants.{OpShell, BlockShell, Names}

-- 512 operations' shells and names, and 256 blocks' shells
abbrev pub most_steps : ℕ
most_steps = 1280

unfoldable pub step_listed : rules.Step → List Step
step_listed (shell (of_op n)) = OpShell n ∷ []
step_listed (shell (of_block b)) = BlockShell b ∷ []
step_listed (names n) = Names n ∷ []
step_listed (counted k) = []

unfoldable pub steps_listed : List rules.Step → List Step
steps_listed xs = flat_map step_listed xs

-- there is room for these behind those that are there
pub record StepsFit (xs : List rules.Step) (walk : List Step) : Type 0 where
  pub room : length walk + length (steps_listed xs) ≤ most_steps

-- behind those that were there these steps stand now
pub record Listed (xs : List rules.Step) (before after : List Step) : Type 0 where
  pub read : after ≡ before ++ steps_listed xs

-- these are the steps of this operation's walk
unfoldable pub AreSteps : List ℕ → ℕ → List Step → Type 0
AreSteps store n list = list ≡ steps_listed (steps (store_in store) op n)

-- ---- that can be so in one way only, since a step is told by two numbers

abbrev step_to_pair : Step → ℕ × ℕ
step_to_pair (OpShell m) = (0, m)
step_to_pair (BlockShell b) = (1, b)
step_to_pair (Names m) = (2, m)

abbrev step_from_pair : ℕ × ℕ → Step
step_from_pair p = cond (p.0 == 0) (OpShell p.1) (cond (p.0 == 1) (BlockShell p.1) (Names p.1))

step_back : (x : Step) → step_from_pair (step_to_pair x) ≡ x
step_back (OpShell m) = refl
step_back (BlockShell b) = refl
step_back (Names m) = refl

abbrev steps_code : Coded (List Step)
steps_code = coded_list (code_by (ℕ × ℕ) (coded× coded_ℕ coded_ℕ) step_to_pair step_from_pair step_back)

pub are_steps_prop : (store : List ℕ) (n : ℕ) (list : List Step) → IsProp (AreSteps store n list)
unfolding AreSteps
are_steps_prop store n list = Coded-set steps_code list (steps_listed (steps (store_in store) op n))

-- ---- one of them

-- the rules' step that it is
unfoldable pub step_of : Step → rules.Step
step_of (OpShell m) = shell (of_op m)
step_of (BlockShell b) = shell (of_block b)
step_of (Names m) = names m

-- the operation or block that it defines, if it defines one
unfoldable pub step_owners : Step → List Owner
step_owners step = step_defines (step_of step)

-- the operation or block that it tells of exists
unfoldable pub StepThere : Cols → Step → Type 0
StepThere C (OpShell m) = m < op_count C
StepThere C (BlockShell b) = b < block_count C
StepThere C (Names m) = m < op_count C
