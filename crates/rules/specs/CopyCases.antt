-- Copies in small stores: a nested form with attributes and successors whose copy's tables are written out, the places that are refused,
-- names that come too early, a copy of the copy, and a copy at the deepest place.
use Rattle.rules.specs.declared.types.Cause.{Cause}
use Rattle.rules.specs.declared.types.Cause.TheVariants.{NotThere, TooDeep, PlacedInside, NamedEarly}
use Rattle.std.specs.Prelude.{ℕ, true, false, List, [], ◌∷◌, ◌++◌, ◌≡◌, take, drop, Option, None, Some}
use Rattle.rules.specs.Store.{Store, empty_store}
use Rattle.rules.specs.declared.types.Owner.TheVariants.{Op as of_op, Block as of_block}
use Rattle.rules.specs.declared.types.Sort.TheVariants.{Op as op}
use Rattle.rules.specs.Building.{Call, new_operation, new_block, set_attribute, first_failed, after}
use Rattle.rules.specs.Laws.{Equal, equal}
use Rattle.rules.specs.Mapping.{empty_mapping}
use Rattle.rules.specs.Entering.{entered, rights}
use Rattle.rules.specs.Copying.{copied, copy_mapping, copy_tests}
use Rattle.rules.specs.Cases.{ignoring, attribute, inherent_one, operation, block_in, first_operand}
use Rattle.rules.specs.NestingCases.{chain}

-- an operation in this block or none, with so many regions, these result types, operands and successors
unfoldable pub operation_in : Option ℕ → ℕ → List ℕ → List ℕ → List ℕ → Call
operation_in parent regions types operands successors =
    new_operation (record { kind = 2; parent = parent; location = 9; regions = regions; types = types; operands = operands; successors = successors })

-- operation 1, behind one whose result it names, has a block with a (operation 2) and b (operation 4), and in a's block stands c (operation 3);
-- b names c's block as successor
unfoldable pub form : List Call
form =
    operation 1 (3 ∷ []) []
    ∷ operation_in None 1 (4 ∷ []) (0 ∷ []) []
    ∷ new_block (record { region = 0; location = 8; types = 5 ∷ [] })
    ∷ operation_in (Some 0) 1 (6 ∷ []) (2 ∷ 0 ∷ []) []
    ∷ block_in 1 []
    ∷ operation_in (Some 1) 0 [] (3 ∷ []) (0 ∷ [])
    ∷ operation_in (Some 0) 0 (9 ∷ []) (3 ∷ 1 ∷ []) (1 ∷ [])
    ∷ set_attribute (of_op 2) (attribute 1 5 10)
    ∷ set_attribute (of_block 0) (inherent_one 2 6 20)
    ∷ []

abbrev pub formed : Store
formed = after empty_store form

-- with a copy of operation 1 and a copy of that copy, operation 5
abbrev pub twice : Store
twice = copied (copied formed 1 None) 5 None

-- the refusal of a copy, if there is one
abbrev pub refusal : Store → ℕ → Option ℕ → Option Cause
refusal s n place = first_failed (copy_tests s n place)

-- an operation that names the argument of a block inside it
unfoldable pub early_operand : List Call
early_operand = operation 1 (3 ∷ []) [] ∷ operation_in None 1 [] (0 ∷ []) [] ∷ block_in 0 (3 ∷ []) ∷ first_operand 1 1 ∷ []

-- an operation made late in the first block names a block inside an operation of the second one
unfoldable pub early_successor : List Call
early_successor =
    operation_in None 1 [] [] []
    ∷ block_in 0 []
    ∷ block_in 0 []
    ∷ operation_in (Some 1) 1 [] [] []
    ∷ block_in 1 []
    ∷ operation_in (Some 0) 0 [] [] (2 ∷ [])
    ∷ []

-- an operation whose block holds one with an operation inside it, and then another one
unfoldable pub behind_nested : List Call
behind_nested =
    operation_in None 1 [] [] []
    ∷ block_in 0 []
    ∷ operation_in (Some 0) 1 [] [] []
    ∷ block_in 1 []
    ∷ operation_in (Some 1) 0 [] [] []
    ∷ operation_in (Some 0) 0 [] [] []
    ∷ []

abbrev pub behind : Store
behind = after empty_store behind_nested

-- 32 operations one in another; behind them an operation with an empty block, and one with an operation in its block
unfoldable pub deep : List Call
deep =
    chain None 0 32
    ++ (operation_in None 1 [] [] [] ∷ block_in 32 [] ∷ operation_in None 1 [] [] [] ∷ block_in 33 [] ∷ operation_in (Some 33) 0 [] [] [] ∷ [])

-- `copy_cases_hold`
pub record CopyCases : Type 0 where
  -- the copies of operation 1, a, b and c are 5, 6, 7, 8, in this order; values and blocks likewise; value 0, which is outside, stays
  pub ops :
      drop 5 (copied formed 1 None).ops
      ≡ record { kind = 2; parent = None; location = 9; operands = 0 ∷ []; successors = []; attributes = [] }
      ∷ record { kind = 2; parent = Some 2; location = 9; operands = 6 ∷ 0 ∷ []; successors = []; attributes = attribute 1 5 10 ∷ [] }
      ∷ record { kind = 2; parent = Some 2; location = 9; operands = 7 ∷ 5 ∷ []; successors = 3 ∷ []; attributes = [] }
      ∷ record { kind = 2; parent = Some 3; location = 9; operands = 7 ∷ []; successors = 2 ∷ []; attributes = [] }
      ∷ []
  pub blocks :
      drop 2 (copied formed 1 None).blocks
      ≡ record { region = 2; location = 8; attributes = inherent_one 2 6 20 ∷ [] }
      ∷ record { region = 3; location = 0; attributes = [] }
      ∷ []
  pub regions : (copied formed 1 None).regions ≡ 1 ∷ 2 ∷ 5 ∷ 6 ∷ []
  pub values :
      drop 5 (copied formed 1 None).values
      ≡ record { type = 4; owner = of_op 5 }
      ∷ record { type = 5; owner = of_block 2 }
      ∷ record { type = 6; owner = of_op 6 }
      ∷ record { type = 9; owner = of_op 7 }
      ∷ []
  pub mapping : take 5 (copy_mapping formed 1).ops ≡ 4294967295 ∷ 5 ∷ 6 ∷ 8 ∷ 7 ∷ []
  pub twin : Equal (copied formed 1 None) (ignoring false 0) op 1 5
  -- a comparison enters operation 3 before operation 2, which is nested: so 3 becomes 6 and 2 becomes 7
  pub behind_first : take 4 (copy_mapping behind 0).ops ≡ 4 ∷ 5 ∷ 7 ∷ 6 ∷ []
  pub in_order :
      rights (entered (copied behind 0 None) (ignoring false 0) op 0 4 empty_mapping)
      ≡ of_op 4 ∷ of_block 2 ∷ of_op 5 ∷ of_op 6 ∷ of_block 3 ∷ of_op 7 ∷ []
  -- a second copy, of the copy, with what is inside under new numbers once more: it is the twin of both
  pub second : refusal (copied formed 1 None) 5 None ≡ None
  pub second_ops :
      drop 9 twice.ops
      ≡ record { kind = 2; parent = None; location = 9; operands = 0 ∷ []; successors = []; attributes = [] }
      ∷ record { kind = 2; parent = Some 4; location = 9; operands = 10 ∷ 0 ∷ []; successors = []; attributes = attribute 1 5 10 ∷ [] }
      ∷ record { kind = 2; parent = Some 4; location = 9; operands = 11 ∷ 9 ∷ []; successors = 5 ∷ []; attributes = [] }
      ∷ record { kind = 2; parent = Some 5; location = 9; operands = 11 ∷ []; successors = 4 ∷ []; attributes = [] }
      ∷ []
  pub second_twin : Equal twice (ignoring false 0) op 5 9
  pub third_twin : Equal twice (ignoring false 0) op 1 9
  -- 18: a block inside; the block that the original stands in is fine, and so is none
  pub without : refusal formed 1 None ≡ None
  pub inside : refusal formed 1 (Some 1) ≡ Some PlacedInside
  pub own_block : refusal formed 2 (Some 0) ≡ None
  pub no_block : refusal formed 1 (Some 2) ≡ Some NotThere
  pub no_operation : refusal formed 5 None ≡ Some NotThere
  -- 19: by an operand, and by a successor; then the copy would not be equal
  pub by_operand : refusal (after empty_store early_operand) 1 None ≡ Some NamedEarly
  pub by_successor : refusal (after empty_store early_successor) 0 None ≡ Some NamedEarly
  pub no_twin : equal (copied (after empty_store early_successor) 0 None) (ignoring true 0) op 0 3 ≡ false
  pub inside_first : refusal (after empty_store early_operand) 1 (Some 0) ≡ Some PlacedInside
  -- 5: operations of nesting 32 are accepted, of nesting 33 refused; an empty block below is no matter
  pub deepest : refusal (after empty_store deep) 32 (Some 31) ≡ None
  pub too_deep : refusal (after empty_store deep) 33 (Some 31) ≡ Some TooDeep
