-- Operations nested as deep as they may be, 32 regions around the innermost: building one more is refused, and a walk comes to all of them.
use Rattle.rules.specs.declared.types.Cause.TheVariants.{TooDeep}
use Rattle.std.specs.Prelude.{ℕ, zero, suc, true, false, List, [], ◌∷◌, ◌++◌, ◌≡◌, Option, None, Some}
use Rattle.rules.specs.Store.{Store, empty_store, sound}
use Rattle.rules.specs.declared.types.Sort.TheVariants.{Op as op, Region as region}
use Rattle.rules.specs.Building.{Call, new_operation, made, refused, answer, after}
use Rattle.rules.specs.Mapping.{empty_mapping}
use Rattle.rules.specs.Answers.{eq, comparison, hash_is, hashed}
use Rattle.rules.specs.Cases.{ignoring, block_in}

-- an operation in this block or none, with one region
unfoldable pub link : Option ℕ → Call
link parent = new_operation (record { kind = 7; parent = parent; location = 0; regions = 1; types = []; operands = []; successors = [] })

-- so many operations one in another, from number n on, the first in this block or none: each has a block, of the same number, in its region
unfoldable pub chain : Option ℕ → ℕ → ℕ → List Call
chain parent n zero = []
chain parent n (suc k) = link parent ∷ block_in n [] ∷ chain (Some n) (suc n) k

-- two chains of 33 operations, 0 to 32 and 33 to 65; the blocks of operations 32 and 65 are empty
abbrev pub deepest : Store
deepest = after empty_store (chain None 0 33 ++ chain None 33 33)

-- `nesting_cases_hold`
pub record NestingCases : Type 0 where
  -- 32 regions around the new operation are accepted, 33 give 5
  pub accepted : answer (after empty_store (chain None 0 32)) (link (Some 31)) ≡ made 32
  pub too_deep : answer (after empty_store (chain None 0 33)) (link (Some 32)) ≡ refused TooDeep
  pub is_sound : sound deepest ≡ true
  -- 33 operations and 33 blocks are paired; by the outermost regions 32 and 33
  pub compared : (comparison true deepest [] empty_mapping (ignoring false 0) op 0 33).answer ≡ eq 66
  pub regions : (comparison true deepest [] empty_mapping (ignoring false 0) region 0 33).answer ≡ eq 65
  -- FNV-1a of 33 times 4 bytes of the kind, 8 of one region, 12 of a shell that has nothing, and a block's 12
  pub hash : hashed true deepest [] (ignoring false 0) op 0 ≡ hash_is 6498221727417800131
