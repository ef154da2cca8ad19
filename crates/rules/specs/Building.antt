-- 01, "Store": the four building calls. A call's tests stand in 01's order (6, 2, 7, 4, 5, 3), each with its cause: the first that
-- fails is the answer, and leaves the store as it was. Arguments are any numbers, and lists of any length.
use Rattle.rules.specs.declared.types.Cause.{Cause}
use Rattle.rules.specs.declared.types.Cause.TheVariants.{NotThere, StoreFull, OwnerFull, TooDeep, UnknownKind, NoOperand}
use Rattle.std.specs.Prelude.{ℕ, ◌+◌, Bool, cond, ◌||◌, List, [], ◌∷◌, ◌++◌, map, eqb, leb, ltb, length, set, replicate, Option, None, Some}
use Rattle.rules.specs.Lists.{every, update_at}
use Rattle.std.specs.List.{list_all, list_any}
use Rattle.rules.specs.Store.{Store, Op, Block, Value, op_at, block_at, op_exists, block_exists, region_exists, value_exists, owner_exists, parent_exists, nesting_holds, operand_total, successor_total, attribute_total, max_ops, max_blocks, max_regions, max_values, max_operands, max_successors, max_attributes, max_own_values, max_own_operands, max_own_regions, max_own_successors, max_own_keys, max_attribute_kind}
use Rattle.rules.specs.declared.types.Attribute.{Attribute}
use Rattle.rules.specs.declared.types.Owner.{Owner}
use Rattle.rules.specs.declared.types.Owner.TheVariants.{Op as of_op, Block as of_block}

-- "kind, parent block or none, location, 0 to 8 regions, 0 to 16 result types, 0 to 16 operands, 0 to 8 successors"
pub record NewOperation : Type 0 where
  pub kind : ℕ
  pub parent : Option ℕ
  pub location : ℕ
  pub regions : ℕ
  pub types : List ℕ
  pub operands : List ℕ
  pub successors : List ℕ

-- "region, location, 0 to 16 argument types"
pub record NewBlock : Type 0 where
  pub region : ℕ
  pub location : ℕ
  pub types : List ℕ

-- "operation, index, any existing value"
pub record SetOperand : Type 0 where
  pub operation : ℕ
  pub index : ℕ
  pub value : ℕ

pub data Call : Type 0 where
  new_operation : NewOperation → Call
  new_block : NewBlock → Call
  -- "operation or block, key, attribute kind, content"
  set_attribute : Owner → Attribute → Call
  set_operand : SetOperand → Call

-- ---- the tests

unfoldable pub attributes_of : Store → Owner → List Attribute
attributes_of s (of_op n) = (op_at s n).attributes
attributes_of s (of_block b) = (block_at s b).attributes

unfoldable pub has_key : ℕ → List Attribute → Bool
has_key k as' = list_any (λ (a : Attribute). eqb a.key k) as'

-- everything that a new operation names exists
unfoldable pub operation_names : Store → NewOperation → Bool
operation_names s o =
    every (parent_exists s o.parent ∷ list_all (value_exists s) o.operands ∷ list_all (block_exists s) o.successors ∷ [])

-- its lists and regions are within the limits of one owner
unfoldable pub operation_fits : NewOperation → Bool
operation_fits o =
    every
    (leb o.regions max_own_regions
    ∷ leb (length o.types) max_own_values
    ∷ leb (length o.operands) max_own_operands
    ∷ leb (length o.successors) max_own_successors
    ∷ [])

-- no total would be passed
unfoldable pub operation_room : Store → NewOperation → Bool
operation_room s o =
    every
    (leb (length s.ops + 1) max_ops
    ∷ leb (length s.regions + o.regions) max_regions
    ∷ leb (length s.values + length o.types) max_values
    ∷ leb (operand_total s + length o.operands) max_operands
    ∷ leb (successor_total s + length o.successors) max_successors
    ∷ [])

unfoldable pub block_room : Store → NewBlock → Bool
block_room s b = every (leb (length s.blocks + 1) max_blocks ∷ leb (length s.values + length b.types) max_values ∷ [])

-- "Order for a call: 1, 8, 6, 2, 7, 4, 5, 3" (order 13)
unfoldable pub tests : Store → Call → List (Bool × Cause)
tests s (new_operation o) =
    (operation_names s o, NotThere)
    ∷ (operation_fits o, OwnerFull)
    ∷ (nesting_holds s o.parent, TooDeep)
    ∷ (operation_room s o, StoreFull)
    ∷ []
tests s (new_block b) =
    (region_exists s b.region, NotThere)
    ∷ (leb (length b.types) max_own_values, OwnerFull)
    ∷ (block_room s b, StoreFull)
    ∷ []
tests s (set_attribute w a) =
    (leb a.kind max_attribute_kind, UnknownKind)
    ∷ (owner_exists s w, NotThere)
    ∷ (has_key a.key (attributes_of s w) || leb (length (attributes_of s w) + 1) max_own_keys, OwnerFull)
    ∷ (has_key a.key (attributes_of s w) || leb (attribute_total s + 1) max_attributes, StoreFull)
    ∷ []
tests s (set_operand u) =
    (every (op_exists s u.operation ∷ value_exists s u.value ∷ []), NotThere)
    ∷ (ltb u.index (length (op_at s u.operation).operands), NoOperand)
    ∷ []

-- the cause of the first test that fails
unfoldable pub first_failed : List (Bool × Cause) → Option Cause
first_failed [] = None
first_failed (t ∷ ts) = cond t.0 (first_failed ts) (Some t.1)

-- ---- the work of an accepted call

-- "A key already there is replaced."
unfoldable pub put_attribute : Attribute → List Attribute → List Attribute
put_attribute a [] = a ∷ []
put_attribute a (b ∷ bs) =
    cond (ltb a.key b.key) (a ∷ b ∷ bs) (cond (eqb a.key b.key) (a ∷ bs) (b ∷ put_attribute a bs))

unfoldable pub op_with_attribute : Attribute → Op → Op
op_with_attribute a o =
    record {
      kind = o.kind;
      parent = o.parent;
      location = o.location;
      operands = o.operands;
      successors = o.successors;
      attributes = put_attribute a o.attributes;
    }

unfoldable pub block_with_attribute : Attribute → Block → Block
block_with_attribute a b =
    record { region = b.region; location = b.location; attributes = put_attribute a b.attributes }

unfoldable pub op_with_operand : ℕ → ℕ → Op → Op
op_with_operand i v o =
    record {
      kind = o.kind;
      parent = o.parent;
      location = o.location;
      operands = set o.operands i v;
      successors = o.successors;
      attributes = o.attributes;
    }

-- "Each result is a value", "Each argument is a value"
unfoldable pub values_for : Owner → List ℕ → List Value
values_for w types = map (λ (t : ℕ). record { type = t; owner = w }) types

-- "It goes to the end of its block", "It goes to the end of its region": the new one has the largest number, and children stand by
-- rising number
unfoldable pub applied : Store → Call → Store
applied s (new_operation o) =
    record {
      ops =
          s.ops ++ (record {
            kind = o.kind;
            parent = o.parent;
            location = o.location;
            operands = o.operands;
            successors = o.successors;
            attributes = [];
          } ∷ []);
      blocks = s.blocks;
      regions = s.regions ++ replicate o.regions (length s.ops);
      values = s.values ++ values_for (of_op (length s.ops)) o.types;
    }
applied s (new_block b) =
    record {
      ops = s.ops;
      blocks = s.blocks ++ (record { region = b.region; location = b.location; attributes = [] } ∷ []);
      regions = s.regions;
      values = s.values ++ values_for (of_block (length s.blocks)) b.types;
    }
applied s (set_attribute (of_op n) a) =
    record { ops = update_at (op_with_attribute a) n s.ops; blocks = s.blocks; regions = s.regions; values = s.values }
applied s (set_attribute (of_block b) a) =
    record { ops = s.ops; blocks = update_at (block_with_attribute a) b s.blocks; regions = s.regions; values = s.values }
applied s (set_operand u) =
    record { ops = update_at (op_with_operand u.index u.value) u.operation s.ops; blocks = s.blocks; regions = s.regions; values = s.values }

-- ---- "Accepted, the first two return the new number, the other two only that they were accepted."

pub data Built : Type 0 where
  made : ℕ → Built
  accepted : Built
  refused : Cause → Built

unfoldable pub acceptance : Store → Call → Built
acceptance s (new_operation o) = made (length s.ops)
acceptance s (new_block b) = made (length s.blocks)
acceptance s (set_attribute w a) = accepted
acceptance s (set_operand u) = accepted

unfoldable pub answer_by : Option Cause → Store → Call → Built
answer_by None s c = acceptance s c
answer_by (Some cause) s c = refused cause

unfoldable pub store_by : Option Cause → Store → Call → Store
store_by None s c = applied s c
store_by (Some cause) s c = s

-- the answer of a call, and the store after it
unfoldable pub answer : Store → Call → Built
answer s c = answer_by (first_failed (tests s c)) s c

unfoldable pub built : Store → Call → Store
built s c = store_by (first_failed (tests s c)) s c

-- the store after a list of calls, refused ones among them
unfoldable pub after : Store → List Call → Store
after s [] = s
after s (c ∷ cs) = after (built s c) cs
