-- Mappings that comparisons leave in small stores: entries obey the laws of `MappingLaws` where images don't; and where the premise fails,
-- a mapping reads backwards only if the comparison the other way is equal too.
use Rattle.std.specs.Prelude.{ℕ, false, List, [], ◌∷◌, ◌++◌, ◌≡◌, take, None, Some}
use Rattle.rules.specs.Store.{Store, empty_store}
use Rattle.rules.specs.declared.types.Sort.TheVariants.{Op as op}
use Rattle.rules.specs.Building.{Call, new_operation, after}
use Rattle.rules.specs.Mapping.{Mapping, no_image, image}
use Rattle.rules.specs.Laws.{Equal, equal}
use Rattle.rules.specs.MappingLaws.{filed}
use Rattle.rules.specs.Cases.{ignoring, operation, block_in, first_operand, example}

-- the mapping that comparing these two operations leaves
abbrev pub filed_in : Store → ℕ → ℕ → Mapping
filed_in s a b = filed s (ignoring false 0) op a b

-- two operations alike
abbrev pub pair : Store
pair = after empty_store (operation 0 [] [] ∷ operation 0 [] [] ∷ [])

-- an operation in no block with a result, one region, and value 0 as operand
unfoldable pub holder : Call
holder = new_operation (record { kind = 2; parent = None; location = 0; regions = 1; types = 3 ∷ []; operands = 0 ∷ []; successors = [] })

-- operations 1 and 2, of which both name the second one's result, each with a block in it; and what is made then
abbrev pub tangled_with : List Call → Store
tangled_with inner =
    after empty_store
    ((operation 1 (3 ∷ []) [] ∷ holder ∷ holder ∷ block_in 0 [] ∷ block_in 1 [] ∷ first_operand 1 2 ∷ first_operand 2 2 ∷ []) ++ inner)

-- an operation in the second one's block
unfoldable pub in_second : List Call
in_second =
    new_operation (record { kind = 3; parent = Some 1; location = 0; regions = 0; types = []; operands = []; successors = [] }) ∷ []

-- `mapping_cases_hold`
pub record MappingCases : Type 0 where
  -- operations 0, 1 and 0 again: the entries of 0 to 1, followed by those of 1 to 0, are those of 0 to 0
  pub forth : take 2 (filed_in pair 0 1).ops ≡ 1 ∷ no_image ∷ []
  pub back : take 2 (filed_in pair 1 0).ops ≡ no_image ∷ 0 ∷ []
  pub whole : take 2 (filed_in pair 0 0).ops ≡ 0 ∷ no_image ∷ []
  -- the images aren't: operation 1 stays 1, which goes to 0; and stays 1
  pub image_forth : image (filed_in pair 0 1).ops 1 ≡ 1
  pub image_back : image (filed_in pair 1 0).ops 1 ≡ 0
  pub image_whole : image (filed_in pair 0 0).ops 1 ≡ 1
  -- equal one way only: the blocks inside are entered that way, and not the other
  pub equal_forth : Equal (tangled_with []) (ignoring false 0) op 1 2
  pub unequal_back : equal (tangled_with []) (ignoring false 0) op 2 1 ≡ false
  pub blocks_forth : take 2 (filed_in (tangled_with []) 1 2).blocks ≡ 1 ∷ no_image ∷ []
  pub blocks_back : take 2 (filed_in (tangled_with []) 2 1).blocks ≡ no_image ∷ no_image ∷ []
  -- and so where both are unequal: entries made before the failure stay
  pub neither_forth : equal (tangled_with in_second) (ignoring false 0) op 1 2 ≡ false
  pub neither_back : equal (tangled_with in_second) (ignoring false 0) op 2 1 ≡ false
  pub kept_forth : take 2 (filed_in (tangled_with in_second) 1 2).blocks ≡ 1 ∷ no_image ∷ []
  pub kept_back : take 2 (filed_in (tangled_with in_second) 2 1).blocks ≡ no_image ∷ no_image ∷ []
  -- a fragment compared with itself: what it defines is its own entry, and nothing else has one
  pub own_values : take 4 (filed_in (after empty_store example) 0 0).values ≡ 0 ∷ 1 ∷ no_image ∷ no_image ∷ []
  pub own_blocks : take 2 (filed_in (after empty_store example) 0 0).blocks ≡ 0 ∷ no_image ∷ []
  pub own_ops : take 4 (filed_in (after empty_store example) 0 0).ops ≡ 0 ∷ 1 ∷ no_image ∷ no_image ∷ []
