-- Order 2, "A fixed shelf order for fragments": a fragment's key, the order of keys, and what the key calls answer.
use Rattle.rules.specs.declared.types.Cause.{Cause}
use Rattle.rules.specs.declared.types.Cause.TheVariants.{NotSound, NotThere, NoRoom, BadTypes}
use Rattle.std.specs.Prelude.{ℕ, ◌^◌, ℤ, pos, negsuc, Bool, true, cond, List, [], ◌∷◌, ◌++◌, leb, ltb, length, drop, Option, None, Some}
use Rattle.rules.specs.Lists.{every}
use Rattle.std.specs.List.{list_all}
use Rattle.rules.specs.Store.{Store, Op, Block, Value}
use Rattle.rules.specs.declared.types.Attribute.{Attribute}
use Rattle.rules.specs.Fragments.{exists, steps}
use Rattle.rules.specs.declared.types.Sort.{Sort}
use Rattle.rules.specs.Building.{Call, new_operation, new_block, set_attribute, set_operand, first_failed}
use Rattle.rules.specs.declared.types.Ignore.{Ignore}
use Rattle.rules.specs.Hash.{count, no_numbers, all_bytes}
use Rattle.rules.specs.Types.{types_hold, renamed}

-- "the bytes that its hash takes in, with the count of every list (results, operands, successors, blocks, arguments, operations) in 8
-- bytes ahead of that list"
unfoldable pub key : Store → Ignore → Sort → ℕ → List ℕ
key s ig f n = all_bytes count s ig (steps s f n) no_numbers

-- no key of a sound store has more bytes than this; 78,336 are reached
abbrev pub longest_key : ℕ
longest_key = 78344

-- ---- "Two keys compare byte by byte, a proper beginning first, as -1, 0 or 1."

pub data Ordering : Type 0 where
  less : Ordering
  same : Ordering
  greater : Ordering

unfoldable pub compare_bytes : List ℕ → List ℕ → Ordering
compare_bytes [] [] = same
compare_bytes [] (y ∷ ys) = less
compare_bytes (x ∷ xs) [] = greater
compare_bytes (x ∷ xs) (y ∷ ys) = cond (ltb x y) less (cond (ltb y x) greater (compare_bytes xs ys))

unfoldable pub ordering_number : Ordering → ℤ
ordering_number less = negsuc 0
ordering_number same = pos 0
ordering_number greater = pos 1

-- the order of the same two, the other way round
unfoldable pub reversed : Ordering → Ordering
reversed less = greater
reversed same = same
reversed greater = less

-- ---- "The key's length is returned, and lent bytes past it stay." "13, last of all, for a lent key shorter than needed, nothing written"

pub data Keyed : Type 0 where
  key_length : ℕ → Keyed
  refused_key : Cause → Keyed

-- the answer, and the lent bytes afterwards
pub record Keying : Type 0 where
  pub answer : Keyed
  pub bytes : List ℕ

unfoldable pub key_tests : Bool → Store → List ℕ → Ignore → Sort → ℕ → ℕ → List (Bool × Cause)
key_tests lent s types ig f n room =
    (lent, NotSound)
    ∷ (types_hold types, BadTypes)
    ∷ (exists s f n, NotThere)
    ∷ (leb (length (key (renamed types s) ig f n)) room, NoRoom)
    ∷ []

-- bytes from the begin of lent ones on, which stay behind them
unfoldable pub written : List ℕ → List ℕ → List ℕ
written bytes lent = bytes ++ drop (length bytes) lent

unfoldable pub keyed_by : Option Cause → List ℕ → List ℕ → Keying
keyed_by None k bytes = record { answer = key_length (length k); bytes = written k bytes }
keyed_by (Some cause) k bytes = record { answer = refused_key cause; bytes = bytes }

-- `operation_key`, `basic_block_key`, `region_key` with a lent list of types
unfoldable pub keyed : Bool → Store → List ℕ → Ignore → Sort → ℕ → List ℕ → Keying
keyed lent s types ig f n bytes =
    keyed_by (first_failed (key_tests lent s types ig f n (length bytes))) (key (renamed types s) ig f n) bytes

-- ---- "Other fields are 32-bit unsigned": a key holds 4 bytes of each, which tell numbers apart only below 2^32

abbrev pub fits : ℕ → Bool
fits n = ltb n (2 ^ 32)

unfoldable pub attribute_fits : Attribute → Bool
attribute_fits a = every (fits a.key ∷ fits a.kind ∷ fits a.content ∷ [])

unfoldable pub op_fits : Op → Bool
op_fits o = every (fits o.kind ∷ fits o.location ∷ list_all attribute_fits o.attributes ∷ [])

unfoldable pub block_fits : Block → Bool
block_fits b = every (fits b.location ∷ list_all attribute_fits b.attributes ∷ [])

unfoldable pub value_fits : Value → Bool
value_fits v = fits v.type

unfoldable pub fields_fit : Store → Bool
fields_fit s = every (list_all op_fits s.ops ∷ list_all block_fits s.blocks ∷ list_all value_fits s.values ∷ [])

-- the arguments of a building call that become fields
unfoldable pub call_fits : Call → Bool
call_fits (new_operation o) = every (fits o.kind ∷ fits o.location ∷ list_all fits o.types ∷ [])
call_fits (new_block b) = every (fits b.location ∷ list_all fits b.types ∷ [])
call_fits (set_attribute w a) = attribute_fits a
call_fits (set_operand c) = true
