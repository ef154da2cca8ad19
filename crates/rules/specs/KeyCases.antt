-- Keys of small fragments, byte by byte, and how bytes compare.
use Rattle.rules.specs.declared.types.Cause.TheVariants.{NoRoom}
use Rattle.std.specs.Prelude.{ℕ, true, false, List, [], ◌∷◌, ◌++◌, ◌≡◌, replicate}
use Rattle.rules.specs.Store.{Store, empty_store}
use Rattle.rules.specs.declared.types.Sort.TheVariants.{Op as op, Block as block, Region as region}
use Rattle.rules.specs.Building.{Call, after}
use Rattle.rules.specs.Hash.{hash}
use Rattle.rules.specs.Keys.{key, less, same, greater, compare_bytes, keyed, key_length, refused_key}
use Rattle.rules.specs.Cases.{ignoring, operation, enclosing, block_in}

-- the store after these calls
abbrev pub having : List Call → Store
having calls = after empty_store calls

-- a number in 4 bytes, and a count in 8
abbrev pub four : ℕ → List ℕ
four n = n ∷ 0 ∷ 0 ∷ 0 ∷ []

abbrev pub eight : ℕ → List ℕ
eight n = n ∷ 0 ∷ 0 ∷ 0 ∷ 0 ∷ 0 ∷ 0 ∷ 0 ∷ []

-- an operation of kind 7 with one result of type 3: kind, regions, location, attributes, results and their types, operands, successors
abbrev pub one_result : List ℕ
one_result = four 7 ++ eight 0 ++ four 0 ++ eight 0 ++ eight 1 ++ four 3 ++ eight 0 ++ eight 0

-- a block with an argument of type 3 and no operations: blocks, location, attributes, arguments and their types, operations
abbrev pub one_block : List ℕ
one_block = eight 1 ++ four 0 ++ eight 0 ++ eight 1 ++ four 3 ++ eight 0

-- after an operation with a result: one with four operands, all that result, and one with five results, whose types are the bytes that a hash
-- takes in of those operands
unfoldable pub one_hash : List Call
one_hash =
    operation 1 (3 ∷ []) []
    ∷ operation 2 [] (0 ∷ 0 ∷ 0 ∷ 0 ∷ [])
    ∷ operation 2 (1 ∷ 256 ∷ 65536 ∷ 16777216 ∷ 0 ∷ []) []
    ∷ []

-- `key_cases_hold`
pub record KeyCases : Type 0 where
  pub an_operation : key (having (operation 7 (3 ∷ []) [] ∷ [])) (ignoring false 0) op 0 ≡ one_result
  -- a region without blocks
  pub an_empty_region : key (having (enclosing 1 1 [] ∷ [])) (ignoring false 0) region 0 ≡ eight 0
  -- a block has the key of a region that holds it alone
  pub a_block : key (having (enclosing 1 1 [] ∷ block_in 0 (3 ∷ []) ∷ [])) (ignoring false 0) block 0 ≡ one_block
  pub its_region : key (having (enclosing 1 1 [] ∷ block_in 0 (3 ∷ []) ∷ [])) (ignoring false 0) region 0 ≡ one_block
  -- two operations may have one hash; their keys are two
  pub one_hash_of : hash (having one_hash) (ignoring false 0) op 1 ≡ hash (having one_hash) (ignoring false 0) op 2
  pub two_keys : compare_bytes (key (having one_hash) (ignoring false 0) op 1) (key (having one_hash) (ignoring false 0) op 2) ≡ less
  -- one byte too few, and bytes behind the key
  pub too_short : keyed true (having (enclosing 1 1 [] ∷ [])) [] (ignoring false 0) region 0 (replicate 7 238) ≡ record { answer = refused_key NoRoom; bytes = replicate 7 238 }
  pub behind_it : keyed true (having (enclosing 1 1 [] ∷ [])) [] (ignoring false 0) region 0 (replicate 9 238) ≡ record { answer = key_length 8; bytes = eight 0 ++ (238 ∷ []) }
  -- a proper beginning first, whatever follows; else the first byte that differs decides
  pub beginning : compare_bytes (1 ∷ []) (1 ∷ 0 ∷ []) ≡ less
  pub longer : compare_bytes (1 ∷ 0 ∷ []) (1 ∷ []) ≡ greater
  pub first_byte : compare_bytes (200 ∷ []) (3 ∷ 255 ∷ []) ≡ greater
  pub none : compare_bytes [] [] ≡ same
