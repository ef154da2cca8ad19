-- Extents of small fragments, number by number.
use Rattle.rules.specs.declared.types.Cause.TheVariants.{NotSound, NotThere}
use Rattle.std.specs.Prelude.{ℕ, true, false, List, [], ◌∷◌, ◌++◌, ◌≡◌, Some}
use Rattle.rules.specs.declared.types.Owner.TheVariants.{Op as of_op}
use Rattle.rules.specs.declared.types.Sort.TheVariants.{Op as op, Block as block, Region as region}
use Rattle.rules.specs.Building.{Call, new_operation, set_attribute}
use Rattle.rules.specs.Cases.{ignoring, attribute, inherent_one, operation, enclosing, block_in, first_operand}
use Rattle.rules.specs.KeyCases.{having}
use Rattle.rules.specs.Extents.{Extent, extent, refused_extent, sized}

-- bytes, values, blocks, operations, nesting
unfoldable pub extent_of : ℕ → ℕ → ℕ → ℕ → ℕ → Extent
extent_of bytes values blocks ops nesting = record { bytes = bytes; values = values; blocks = blocks; ops = ops; nesting = nesting }

-- an operation in this block, with so many regions
unfoldable pub standing_in : ℕ → ℕ → Call
standing_in b regions =
    new_operation (record { kind = 8; parent = Some b; location = 0; regions = regions; types = []; operands = []; successors = [] })

-- an operation with a region, in it a block, in it an operation with a region without blocks
unfoldable pub two_deep : List Call
two_deep = enclosing 7 1 [] ∷ block_in 0 [] ∷ standing_in 0 1 ∷ []

-- an operation with one result, whose own operand it is; and one that names it from outside
unfoldable pub naming : List Call
naming = operation 7 (3 ∷ []) [] ∷ operation 8 (3 ∷ []) (0 ∷ []) ∷ operation 8 (3 ∷ []) (0 ∷ []) ∷ first_operand 2 2 ∷ []

-- an operation with one attribute, and with an inherent one besides
unfoldable pub attributed : List Call
attributed = operation 7 [] [] ∷ set_attribute (of_op 0) (attribute 1 2 3) ∷ []

unfoldable pub attributed_twice : List Call
attributed_twice = attributed ++ (set_attribute (of_op 0) (inherent_one 2 2 3) ∷ [])

-- `extent_cases_hold`
pub record ExtentCases : Type 0 where
  pub an_empty_region : extent (having (enclosing 1 1 [] ∷ [])) (ignoring false 0) region 0 ≡ extent_of 8 0 0 0 0
  pub with_an_empty_region : extent (having (enclosing 1 1 [] ∷ [])) (ignoring false 0) op 0 ≡ extent_of 56 0 0 1 0
  pub a_block : extent (having (enclosing 1 1 [] ∷ block_in 0 (3 ∷ []) ∷ [])) (ignoring false 0) block 0 ≡ extent_of 40 1 1 0 0
  -- a location takes 4 bytes unless it is ignored
  pub location_ignored : extent (having (enclosing 1 1 [] ∷ [])) (ignoring true 0) op 0 ≡ extent_of 52 0 0 1 0
  -- a name takes 9 bytes where it is numbered, and 5 where it is not
  pub named_outside : extent (having naming) (ignoring false 0) op 1 ≡ extent_of 57 1 0 1 0
  pub named_inside : extent (having naming) (ignoring false 0) op 2 ≡ extent_of 61 1 0 1 0
  -- an attribute takes 13 bytes, none where it is ignored, unless it is inherent
  pub an_attribute : extent (having attributed) (ignoring false 0) op 0 ≡ extent_of 61 0 0 1 0
  pub ignored_attribute : extent (having attributed) (ignoring false 4) op 0 ≡ extent_of 48 0 0 1 0
  pub inherent_attribute : extent (having attributed_twice) (ignoring false 4) op 0 ≡ extent_of 61 0 0 1 0
  -- the fragment's own region is not counted, nor one without operations
  pub of_an_operation : (extent (having two_deep) (ignoring false 0) op 0).nesting ≡ 1
  pub of_its_block : (extent (having two_deep) (ignoring false 0) block 0).nesting ≡ 0
  pub of_its_region : (extent (having two_deep) (ignoring false 0) region 0).nesting ≡ 0
  pub refused_first : sized false (having []) (ignoring false 0) op 0 ≡ refused_extent NotSound
  pub not_there : sized true (having []) (ignoring false 0) op 0 ≡ refused_extent NotThere
