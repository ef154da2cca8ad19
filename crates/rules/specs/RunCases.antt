-- Repeated runs in small blocks, and the sums of windows.
use Rattle.rules.specs.declared.types.Cause.TheVariants.{NotThere, BadTypes, BadRunLength}
use Rattle.std.specs.Prelude.{ℕ, true, false, List, [], ◌∷◌, map, ◌≡◌, Option, None, Some}
use Rattle.rules.specs.Store.{Store, empty_store}
use Rattle.rules.specs.Building.{Call, new_operation, after}
use Rattle.rules.specs.Runs.{Run, repeated, weighted, no_run, refused_run, repeated_run}
use Rattle.rules.specs.Cases.{ignoring, enclosing, block_in, first_operand}

-- an operation of this kind in block 0, with a result and these operands
unfoldable pub within : ℕ → List ℕ → Call
within kind operands =
    new_operation (record { kind = kind; parent = Some 0; location = 0; regions = 0; types = 3 ∷ []; operands = operands; successors = [] })

-- the store with one block, and these in it; the block's argument is value 0, and the results have the numbers from 1 on
abbrev pub page : List Call → Store
page inside = after empty_store (enclosing 7 1 [] ∷ block_in 0 (3 ∷ []) ∷ inside)

-- operations of these kinds that name nothing
abbrev pub kinds : List ℕ → Store
kinds ks = page (map (λ (k : ℕ). within k []) ks)

abbrev pub runs : ℕ → ℕ → Option Run
runs i j = Some (record { left = i; right = j })

-- `run_cases_hold`
pub record RunCases : Type 0 where
  -- each run uses its own result
  pub own_results : repeated (page (within 8 (0 ∷ []) ∷ within 9 (1 ∷ []) ∷ within 8 (0 ∷ []) ∷ within 9 (3 ∷ []) ∷ [])) (ignoring false 0) 0 2 ≡ runs 0 2
  -- three alike: runs of 2 would overlap
  pub overlap : repeated (kinds (8 ∷ 8 ∷ 8 ∷ [])) (ignoring false 0) 0 2 ≡ None
  pub apart : repeated (kinds (8 ∷ 8 ∷ 8 ∷ 8 ∷ [])) (ignoring false 0) 0 2 ≡ runs 0 2
  -- the smallest right start wins over the smallest left
  pub right_first : repeated (kinds (1 ∷ 2 ∷ 3 ∷ 2 ∷ 1 ∷ [])) (ignoring false 0) 0 1 ≡ runs 1 3
  -- alike, and they name different values
  pub other_names : repeated (page (within 1 [] ∷ within 9 (0 ∷ []) ∷ within 9 (1 ∷ []) ∷ [])) (ignoring false 0) 0 1 ≡ None
  -- both name the later one's result, which has no entry; and both the earlier one's, whose image is the later one's: found one way only
  pub name_later : repeated (page (within 9 (0 ∷ []) ∷ within 9 (0 ∷ []) ∷ first_operand 1 2 ∷ first_operand 2 2 ∷ [])) (ignoring false 0) 0 1 ≡ runs 0 1
  pub name_earlier : repeated (page (within 9 (0 ∷ []) ∷ within 9 (0 ∷ []) ∷ first_operand 1 1 ∷ first_operand 2 1 ∷ [])) (ignoring false 0) 0 1 ≡ None
  pub own_names : repeated (page (within 9 (0 ∷ []) ∷ within 9 (0 ∷ []) ∷ first_operand 1 1 ∷ first_operand 2 2 ∷ [])) (ignoring false 0) 0 1 ≡ runs 0 1
  pub longer : repeated (kinds (8 ∷ 8 ∷ [])) (ignoring false 0) 0 3 ≡ None
  -- the last word counts once
  pub window : weighted (2 ∷ 3 ∷ 5 ∷ []) ≡ 1916448767593328
  -- 14 before 2 before 15
  pub list_first : repeated_run true (kinds []) (1 ∷ []) (ignoring false 0) 9 0 ≡ refused_run BadTypes
  pub block_next : repeated_run true (kinds []) [] (ignoring false 0) 9 0 ≡ refused_run NotThere
  pub length_last : repeated_run true (kinds []) [] (ignoring false 0) 0 0 ≡ refused_run BadRunLength
  pub too_long : repeated_run true (kinds []) [] (ignoring false 0) 0 257 ≡ refused_run BadRunLength
  pub longest : repeated_run true (kinds []) [] (ignoring false 0) 0 256 ≡ no_run
