-- 01, "Store": what a store holds, its limits and totals, nesting, and when it is sound.
-- Child lists are not kept: the children of an owner are the numbers of those that name it, by rising number. So "each list holds
-- exactly its owner's children by rising number" and "belong to one owner each" hold of every store that can be written here.
-- "Other fields are 32-bit unsigned": here they are any numbers, and the words of the layout bound them.
use Rattle.std.specs.Prelude.{ℕ, zero, suc, ◌+◌, Bool, true, false, ◌&&◌, List, [], ◌∷◌, map, eqb, leb, ltb, length, get_or, Option, None, Some, is_some}
use Rattle.rules.specs.declared.types.Attribute.{Attribute}
use Rattle.rules.specs.declared.types.Owner.{Owner}
use Rattle.rules.specs.declared.types.Owner.TheVariants.{Op as of_op, Block as of_block}
use Rattle.rules.specs.Lists.{every, all_below, sum, numbers_where}
use Rattle.std.specs.List.{list_all}

-- the parent is a block or none; attributes stand by rising key, so that key order is without effect
pub record Op : Type 0 where
  pub kind : ℕ
  pub parent : Option ℕ
  pub location : ℕ
  pub operands : List ℕ
  pub successors : List ℕ
  pub attributes : List Attribute

pub record Block : Type 0 where
  pub region : ℕ
  pub location : ℕ
  pub attributes : List Attribute

-- a result of an operation or an argument of a block
pub record Value : Type 0 where
  pub type : ℕ
  pub owner : Owner

-- "Operations, blocks, regions and values are numbered from 0 in order of creation". A region is the operation that it belongs to.
pub record Store : Type 0 where
  pub ops : List Op
  pub blocks : List Block
  pub regions : List ℕ
  pub values : List Value

-- "an empty store has none of them"
unfoldable pub empty_store : Store
empty_store = record { ops = []; blocks = []; regions = []; values = [] }

-- what a number past the end of its list is read as; no rule reads one in a sound store
unfoldable pub no_op : Op
no_op = record { kind = 0; parent = None; location = 0; operands = []; successors = []; attributes = [] }

unfoldable pub no_block : Block
no_block = record { region = 0; location = 0; attributes = [] }

unfoldable pub no_value : Value
no_value = record { type = 0; owner = of_op 0 }

unfoldable pub op_at : Store → ℕ → Op
op_at s n = get_or s.ops n no_op

unfoldable pub block_at : Store → ℕ → Block
block_at s n = get_or s.blocks n no_block

unfoldable pub value_at : Store → ℕ → Value
value_at s n = get_or s.values n no_value

-- the type of a value, as it is compared and hashed
unfoldable pub type_of : Store → ℕ → ℕ
type_of s v = (value_at s v).type

-- ---- children, by rising number

unfoldable pub same_owner : Owner → Owner → Bool
same_owner (of_op a) (of_op b) = eqb a b
same_owner (of_op a) (of_block b) = false
same_owner (of_block a) (of_op b) = false
same_owner (of_block a) (of_block b) = eqb a b

unfoldable pub is_parent : ℕ → Option ℕ → Bool
is_parent b None = false
is_parent b (Some p) = eqb p b

unfoldable pub ops_of : Store → ℕ → List ℕ
ops_of s b = numbers_where (λ (o : Op). is_parent b o.parent) s.ops

unfoldable pub blocks_of : Store → ℕ → List ℕ
blocks_of s r = numbers_where (λ (b : Block). eqb b.region r) s.blocks

unfoldable pub regions_of : Store → ℕ → List ℕ
regions_of s n = numbers_where (λ (o : ℕ). eqb o n) s.regions

-- an operation's results, a block's arguments
unfoldable pub values_of : Store → Owner → List ℕ
values_of s w = numbers_where (λ (v : Value). same_owner v.owner w) s.values

unfoldable pub results_of : Store → ℕ → List ℕ
results_of s n = values_of s (of_op n)

unfoldable pub arguments_of : Store → ℕ → List ℕ
arguments_of s b = values_of s (of_block b)

-- ---- "a named thing exists"

unfoldable pub op_exists : Store → ℕ → Bool
op_exists s n = ltb n (length s.ops)

unfoldable pub block_exists : Store → ℕ → Bool
block_exists s n = ltb n (length s.blocks)

unfoldable pub region_exists : Store → ℕ → Bool
region_exists s n = ltb n (length s.regions)

unfoldable pub value_exists : Store → ℕ → Bool
value_exists s n = ltb n (length s.values)

unfoldable pub owner_exists : Store → Owner → Bool
owner_exists s (of_op n) = op_exists s n
owner_exists s (of_block b) = block_exists s b

unfoldable pub parent_exists : Store → Option ℕ → Bool
parent_exists s None = true
parent_exists s (Some b) = block_exists s b

-- ---- nesting

unfoldable pub parent_of : Store → ℕ → Option ℕ
parent_of s n = (op_at s n).parent

-- the operation around a block
unfoldable pub op_around : Store → ℕ → ℕ
op_around s b = get_or s.regions (block_at s b).region 0

-- "An operation's nesting is the number of regions around it": of k regions that may be around an operation with this parent, how
-- many are left for those inside it; none where there are more than k
unfoldable pub levels_left : ℕ → Store → Option ℕ → Option ℕ
levels_left zero s None = Some 0
levels_left zero s (Some b) = None
levels_left (suc k) s None = Some (suc k)
levels_left (suc k) s (Some b) = levels_left k s (parent_of s (op_around s b))

-- "at most 32"
abbrev pub max_nesting : ℕ
max_nesting = 32

unfoldable pub nesting_holds : Store → Option ℕ → Bool
nesting_holds s p = is_some (levels_left max_nesting s p)

-- "a nested operation has a larger number than any operation around it": than the one next around it, and so than any
unfoldable pub op_after : Store → ℕ → Option ℕ → Bool
op_after s n None = true
op_after s n (Some b) = ltb (op_around s b) n

-- "and a nested block than any block around it", likewise
unfoldable pub block_after : ℕ → Option ℕ → Bool
block_after m None = true
block_after m (Some b) = ltb b m

-- ---- totals: "512 operations, 256 blocks, 256 regions, 2,048 values, 2,048 operands, 512 successors, 1,024 attributes"

unfoldable pub operand_total : Store → ℕ
operand_total s = sum (map (λ (o : Op). length o.operands) s.ops)

unfoldable pub successor_total : Store → ℕ
successor_total s = sum (map (λ (o : Op). length o.successors) s.ops)

unfoldable pub attribute_total : Store → ℕ
attribute_total s =
    sum (map (λ (o : Op). length o.attributes) s.ops) + sum (map (λ (b : Block). length b.attributes) s.blocks)

abbrev pub max_ops : ℕ
max_ops = 512

abbrev pub max_blocks : ℕ
max_blocks = 256

abbrev pub max_regions : ℕ
max_regions = 256

abbrev pub max_values : ℕ
max_values = 2048

abbrev pub max_operands : ℕ
max_operands = 2048

abbrev pub max_successors : ℕ
max_successors = 512

abbrev pub max_attributes : ℕ
max_attributes = 1024

unfoldable pub totals_hold : Store → Bool
totals_hold s =
    every
    (leb (length s.ops) max_ops
    ∷ leb (length s.blocks) max_blocks
    ∷ leb (length s.regions) max_regions
    ∷ leb (length s.values) max_values
    ∷ leb (operand_total s) max_operands
    ∷ leb (successor_total s) max_successors
    ∷ leb (attribute_total s) max_attributes
    ∷ [])

-- ---- limits of one owner: "0 to 8 regions", "0 to 16 result types, 0 to 16 operands", "0 to 8 successors", "0 to 16 argument types",
-- "attribute kind 0 to 63", "At most 8 keys each"

abbrev pub max_own_values : ℕ
max_own_values = 16

abbrev pub max_own_operands : ℕ
max_own_operands = 16

abbrev pub max_own_regions : ℕ
max_own_regions = 8

abbrev pub max_own_successors : ℕ
max_own_successors = 8

abbrev pub max_own_keys : ℕ
max_own_keys = 8

abbrev pub max_attribute_kind : ℕ
max_attribute_kind = 63

-- each key is larger than the one before it, and than k: "keys of one owner differ"
unfoldable pub keys_rise_after : ℕ → List Attribute → Bool
keys_rise_after k [] = true
keys_rise_after k (a ∷ as') = ltb k a.key && keys_rise_after a.key as'

unfoldable pub keys_rise : List Attribute → Bool
keys_rise [] = true
keys_rise (a ∷ as') = keys_rise_after a.key as'

unfoldable pub attributes_hold : List Attribute → Bool
attributes_hold as' =
    every
    (keys_rise as'
    ∷ leb (length as') max_own_keys
    ∷ list_all (λ (a : Attribute). leb a.kind max_attribute_kind) as'
    ∷ [])

-- ---- "A store is sound when every name in it exists, a nested operation has a larger number than any operation around it and a nested
-- block than any block around it, ..., keys of one owner differ, and all limits hold."

unfoldable pub op_holds : Store → ℕ → Bool
op_holds s n =
    let o = op_at s n in
    every
    (parent_exists s o.parent
    ∷ list_all (value_exists s) o.operands
    ∷ list_all (block_exists s) o.successors
    ∷ op_after s n o.parent
    ∷ nesting_holds s o.parent
    ∷ leb (length (regions_of s n)) max_own_regions
    ∷ leb (length (results_of s n)) max_own_values
    ∷ leb (length o.operands) max_own_operands
    ∷ leb (length o.successors) max_own_successors
    ∷ attributes_hold o.attributes
    ∷ [])

unfoldable pub block_holds : Store → ℕ → Bool
block_holds s m =
    every
    (region_exists s (block_at s m).region
    ∷ block_after m (parent_of s (op_around s m))
    ∷ leb (length (arguments_of s m)) max_own_values
    ∷ attributes_hold (block_at s m).attributes
    ∷ [])

unfoldable pub sound : Store → Bool
sound s =
    every
    (all_below (length s.ops) (op_holds s)
    ∷ all_below (length s.blocks) (block_holds s)
    ∷ list_all (op_exists s) s.regions
    ∷ list_all (λ (v : Value). owner_exists s v.owner) s.values
    ∷ totals_hold s
    ∷ [])
