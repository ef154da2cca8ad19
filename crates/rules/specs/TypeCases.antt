-- Lists of renamed types: which hold, what types they make one, and which cause comes first.
use Rattle.rules.specs.declared.types.Cause.TheVariants.{NotSound, NotThere, BadMapping, BadTypes}
use Rattle.std.specs.Prelude.{ℕ, zero, suc, ◌+◌, true, false, List, [], ◌∷◌, ◌≡◌}
use Rattle.rules.specs.Store.{Store, empty_store}
use Rattle.rules.specs.declared.types.Sort.TheVariants.{Op as op, Region as region}
use Rattle.rules.specs.Building.{Call, after}
use Rattle.rules.specs.Mapping.{empty_mapping}
use Rattle.rules.specs.Types.{types_hold, present}
use Rattle.rules.specs.Comparison.{pair_of}
use Rattle.rules.specs.Answers.{eq, neq, refused, comparison, hashed, refused_hash}
use Rattle.rules.specs.Keys.{keyed, refused_key}
use Rattle.rules.specs.Cases.{ignoring, operation, enclosing, block_in, one_entry}

-- so many rows, from old types n on, each to its old type and 1000
unfoldable pub rows_from : ℕ → ℕ → List ℕ
rows_from n zero = []
rows_from n (suc k) = n ∷ (n + 1000) ∷ rows_from (suc n) k

-- two operations of one kind, with results of types 1 and 2; and two regions with a block each, with arguments of these types
unfoldable pub two_types : List Call
two_types =
    operation 7 (1 ∷ []) []
    ∷ operation 7 (2 ∷ []) []
    ∷ enclosing 8 1 []
    ∷ block_in 0 (1 ∷ [])
    ∷ enclosing 8 1 []
    ∷ block_in 1 (2 ∷ [])
    ∷ operation 9 [] (0 ∷ [])
    ∷ operation 9 [] (1 ∷ [])
    ∷ []

abbrev pub types12 : Store
types12 = after empty_store two_types

-- types 1 and 2 become type 3
abbrev pub merging : List ℕ
merging = 1 ∷ 3 ∷ 2 ∷ 3 ∷ []

-- `type_cases_hold`
pub record TypeCases : Type 0 where
  pub no_rows : types_hold [] ≡ true
  pub half_row : types_hold (1 ∷ 2 ∷ 3 ∷ []) ≡ false
  pub chain : types_hold (1 ∷ 2 ∷ 2 ∷ 3 ∷ []) ≡ false
  pub swap : types_hold (1 ∷ 2 ∷ 2 ∷ 1 ∷ []) ≡ false
  -- twice, even to the same type
  pub double : types_hold (1 ∷ 2 ∷ 1 ∷ 2 ∷ []) ≡ false
  pub itself : types_hold (1 ∷ 1 ∷ []) ≡ false
  pub merged : types_hold merging ≡ true
  pub largest : types_hold (4294967295 ∷ 0 ∷ 1 ∷ 4294967294 ∷ []) ≡ true
  pub most : types_hold (rows_from 0 64) ≡ true
  pub one_more : types_hold (rows_from 0 65) ≡ false
  pub with_row : present merging 2 ≡ 3
  pub without_row : present merging 4 ≡ 4
  -- results, arguments, and operands where a lent mapping gives one the other as image
  pub unequal_results : (comparison true types12 [] empty_mapping (ignoring false 0) op 0 1).answer ≡ neq (pair_of op 0 1) 0
  pub equal_results : (comparison true types12 merging empty_mapping (ignoring false 0) op 0 1).answer ≡ eq 1
  pub equal_arguments : (comparison true types12 merging empty_mapping (ignoring false 0) region 0 1).answer ≡ eq 1
  pub unequal_operands : (comparison true types12 [] (one_entry 0 1) (ignoring false 0) op 4 5).answer ≡ neq (pair_of op 4 5) 1
  pub equal_operands : (comparison true types12 merging (one_entry 0 1) (ignoring false 0) op 4 5).answer ≡ eq 1
  -- one of the two renamed to the other
  pub renamed_to_other : (comparison true types12 (1 ∷ 2 ∷ []) empty_mapping (ignoring false 0) op 0 1).answer ≡ eq 1
  -- 1, 8, 14, 2 in this order
  pub unsound_first : (comparison false types12 (1 ∷ []) (one_entry 9 9) (ignoring false 0) op 99 99).answer ≡ refused NotSound
  pub mapping_next : (comparison true types12 (1 ∷ []) (one_entry 9 9) (ignoring false 0) op 99 99).answer ≡ refused BadMapping
  pub list_next : (comparison true types12 (1 ∷ []) empty_mapping (ignoring false 0) op 99 99).answer ≡ refused BadTypes
  pub missing_last : (comparison true types12 merging empty_mapping (ignoring false 0) op 99 99).answer ≡ refused NotThere
  pub hash_refused : hashed true types12 (1 ∷ []) (ignoring false 0) op 99 ≡ refused_hash BadTypes
  pub key_refused : (keyed true types12 (1 ∷ []) (ignoring false 0) op 99 []).answer ≡ refused_key BadTypes
