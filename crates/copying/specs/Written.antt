-- What is written for one operation or block of a walk, by the rules: a new row like the original's, named by the mapping, and its attributes.
use Rattle.std.specs.Prelude.{◌≡◌, ℕ, ◌+◌, ◌-◌, ◌<◌, ◌≤◌, List, true, cond, eqb, ltb, map, length, get_or, Option}
use Rattle.std.specs.List.{list_all}
use Rattle.rules.specs.Lists.{update_at}
use Rattle.rules.specs.Store.{Store, Op, Block, op_at, block_at, parent_of, type_of, regions_of, results_of, arguments_of, parent_exists, attributes_hold, operand_total, successor_total, attribute_total, max_ops, max_blocks, max_regions, max_values, max_operands, max_successors, max_attributes, max_own_values, max_own_operands, max_own_successors}
use Rattle.rules.specs.declared.types.Attribute.{Attribute}
use Rattle.rules.specs.declared.types.Owner.{Owner}
use Rattle.rules.specs.declared.types.Owner.TheVariants.{Op as of_op, Block as of_block}
use Rattle.rules.specs.Building.{NewOperation, NewBlock, new_operation, new_block, applied}
use Rattle.rules.specs.Mapping.{Mapping, image}
use Rattle.rules.specs.Copying.{inner}
use Rattle.layout.specs.Columns.{columns}
use Rattle.layout.specs.Reading.{store_in}
use Rattle.layout.specs.Soundness.{Arranged}
use Rattle.mutation.specs.Doing.{Behind}
use Rattle.copying.specs.declared.steps.Step.{Step}
use Rattle.copying.specs.declared.steps.Step.TheVariants.{OpShell, BlockShell, Names}

-- ---- attributes

unfoldable pub op_attributed : List Attribute → Op → Op
op_attributed as' o =
    record { kind = o.kind; parent = o.parent; location = o.location; operands = o.operands; successors = o.successors; attributes = as' }

unfoldable pub block_attributed : List Attribute → Block → Block
block_attributed as' b = record { region = b.region; location = b.location; attributes = as' }

-- the owner's attributes are these
unfoldable pub attributed : Store → Owner → List Attribute → Store
attributed s (of_op n) as' = record { ops = update_at (op_attributed as') n s.ops; blocks = s.blocks; regions = s.regions; values = s.values }
attributed s (of_block b) as' = record { ops = s.ops; blocks = update_at (block_attributed as') b s.blocks; regions = s.regions; values = s.values }

-- ---- an operation

unfoldable pub op_asked : Store → Mapping → Option ℕ → ℕ → NewOperation
op_asked s M parent m =
    record {
      kind = (op_at s m).kind;
      parent = parent;
      location = (op_at s m).location;
      regions = length (regions_of s m);
      types = map (type_of s) (results_of s m);
      operands = map (image M.values) (op_at s m).operands;
      successors = map (image M.blocks) (op_at s m).successors;
    }

unfoldable pub op_made : Store → Mapping → Option ℕ → ℕ → Store
op_made s M parent m = attributed (applied s (new_operation (op_asked s M parent m))) (of_op (length s.ops)) (op_at s m).attributes

-- the copied operation itself gets the named parent, what is inside it the image of its block
unfoldable pub parent_by : Store → Mapping → ℕ → Option ℕ → ℕ → Option ℕ
parent_by s M n place m = cond (eqb m n) place (inner (image M.blocks) (parent_of s m))

-- ---- a block

-- as far behind the first region of its operation's image as r is behind the first region of its operation
unfoldable pub region_by : Store → Mapping → ℕ → ℕ
region_by s M r =
    get_or (regions_of s (image M.ops (get_or s.regions r 0))) 0 0 + (r - get_or (regions_of s (get_or s.regions r 0)) 0 0)

unfoldable pub block_asked : Store → Mapping → ℕ → NewBlock
block_asked s M b =
    record {
      region = region_by s M (block_at s b).region;
      location = (block_at s b).location;
      types = map (type_of s) (arguments_of s b);
    }

unfoldable pub block_made : Store → Mapping → ℕ → Store
block_made s M b = attributed (applied s (new_block (block_asked s M b))) (of_block (length s.blocks)) (block_at s b).attributes

-- ---- what is asked for before

-- the operation's lists and regions are few, what it names has entries in a mapping, and there is room for all that it has once more
pub record OpReady (s : Store) (m : ℕ) : Type 0 where
  pub results : length (results_of s m) ≤ max_own_values
  pub operands : length (op_at s m).operands ≤ max_own_operands
  pub successors : length (op_at s m).successors ≤ max_own_successors
  pub values_named : list_all (λ (v : ℕ). ltb v max_values) (op_at s m).operands ≡ true
  pub blocks_named : list_all (λ (b : ℕ). ltb b max_blocks) (op_at s m).successors ≡ true
  pub attributes : attributes_hold (op_at s m).attributes ≡ true
  pub op_room : length s.ops + 1 ≤ max_ops
  pub region_room : length s.regions + length (regions_of s m) ≤ max_regions
  pub value_room : length s.values + length (results_of s m) ≤ max_values
  pub operand_room : operand_total s + length (op_at s m).operands ≤ max_operands
  pub successor_room : successor_total s + length (op_at s m).successors ≤ max_successors
  pub attribute_room : attribute_total s + length (op_at s m).attributes ≤ max_attributes

-- the image of the operation around the block is there and has as many regions, and there is room
pub record BlockReady (s : Store) (M : Mapping) (b : ℕ) : Type 0 where
  pub arguments : length (arguments_of s b) ≤ max_own_values
  pub around : image M.ops (get_or s.regions (block_at s b).region 0) < length s.ops
  pub some : 0 < length (regions_of s (image M.ops (get_or s.regions (block_at s b).region 0)))
  pub region : region_by s M (block_at s b).region < length s.regions
  pub attributes : attributes_hold (block_at s b).attributes ≡ true
  pub block_room : length s.blocks + 1 ≤ max_blocks
  pub value_room : length s.values + length (arguments_of s b) ≤ max_values
  pub attribute_room : attribute_total s + length (block_at s b).attributes ≤ max_attributes

-- ---- a step

-- what is written for it: of a shell its owner's copy
unfoldable pub step_made : Store → Mapping → ℕ → Option ℕ → Step → Store
step_made s M n place (OpShell m) = op_made s M (parent_by s M n place m) m
step_made s M n place (BlockShell b) = block_made s M b
step_made s M n place (Names m) = s

pub record OpStep (s : Store) (M : Mapping) (n : ℕ) (place : Option ℕ) (m : ℕ) : Type 0 where
  pub op_in : m < length s.ops
  pub parent_in : parent_exists s (parent_by s M n place m) ≡ true
  pub op : OpReady s m

pub record BlockStep (s : Store) (M : Mapping) (b : ℕ) : Type 0 where
  pub block_in : b < length s.blocks
  pub block : BlockReady s M b

unfoldable pub StepReady : Store → Mapping → ℕ → Option ℕ → Step → Type 0
StepReady s M n place (OpShell m) = OpStep s M n place m
StepReady s M n place (BlockShell b) = BlockStep s M b
StepReady s M n place (Names m) = Unit {0}

-- ---- a buffer

-- it is read as this store now, is laid out, and what marks rest on is as it was
pub record ReadsAs (entry exit : List ℕ) (s : Store) : Type 0 where
  pub reads : store_in exit ≡ s
  pub arranged : Arranged exit
  pub behind : Behind (columns entry) (columns exit)
