-- What an accepted call that adds writes, column by column.
use Rattle.std.specs.Prelude.{ℕ, suc, ◌+◌, ◌-◌, ◌<◌, ◌≤◌, cond, List, [], ◌∷◌, ◌++◌, leb, length, replicate, Option, None, Some}
use Rattle.rules.specs.Store.{max_ops, max_regions, max_values, max_operands, max_successors}
use Rattle.rules.specs.declared.types.Owner.{Owner}
use Rattle.rules.specs.declared.types.Owner.TheVariants.{Op as of_op, Block as of_block}
use Rattle.rules.specs.Building.{NewOperation, NewBlock}
use Rattle.layout.specs.Columns.{Cols, column_count, column_size, at, write, write_range, counts, op_kind, op_parent, op_depth, region_op, region_block_first, region_block_end, block_region, block_op_first, block_op_end, value_type, value_owner, operand_words, successor_words, op_next, block_next}
use Rattle.layout.specs.Reading.{op_count, block_count, region_count, value_count, operand_count, successor_count, around, owner_code}
use Rattle.layout.specs.Children.{behind_child}
use Rattle.layout.specs.declared.families.Family.{Family}

-- row n: its words, one to a column, from column k on
unfoldable pub with_row : Cols → ℕ → ℕ → List ℕ → Cols
with_row C k n [] = C
with_row C k n (v ∷ vs) = with_row (write C k n v) (suc k) n vs

-- ---- new values, of an operation or of a block

-- with the owner as a word
unfoldable pub with_values_by : Cols → ℕ → List ℕ → Cols
with_values_by C code types =
    write (write_range (write_range C value_type (value_count C) types) value_owner (value_count C) (replicate (length types) code))
    counts 3 (value_count C + length types)

unfoldable pub with_values : Cols → Owner → List ℕ → Cols
unfolding with_values_by
with_values C w types = with_values_by C (owner_code w) types

-- ---- new operation

unfoldable pub parent_code : Option ℕ → ℕ
parent_code None = 0
parent_code (Some b) = b + 1

-- the parent, if there is one, is below n
unfoldable pub ParentBelow : ℕ → Option ℕ → Type 0
ParentBelow n None = Unit {0}
ParentBelow n (Some b) = b < n

-- there is room for so many of each
pub record OpRoom (C : Cols) (r v o s : ℕ) : Type 0 where
  pub ops : op_count C + 1 ≤ max_ops
  pub regions : region_count C + r ≤ max_regions
  pub values : value_count C + v ≤ max_values
  pub operands : operand_count C + o ≤ max_operands
  pub successors : successor_count C + s ≤ max_successors

-- the nesting of an operation with this parent
unfoldable pub depth_under : Cols → Option ℕ → ℕ
depth_under C None = 0
depth_under C (Some b) = at C op_depth (around C b) + 1

-- the columns of a sort of child are there, and long enough for child n and for its owner
pub record Placeable (f : Family) (owner n : ℕ) : Type 0 where
  pub owners : f.owners < column_count
  pub links : f.links < column_count
  pub firsts : f.firsts < column_count
  pub ends : f.ends < column_count
  pub word : owner + f.offset ≤ 512
  pub owned : n < column_size f.owners
  pub linked : n < column_size f.links
  pub begun : owner < column_size f.firsts
  pub ended : owner < column_size f.ends
  pub few : n < 512

-- where a range of children begins once n is in it: with n if it was empty
unfoldable pub begun : ℕ → ℕ → ℕ → ℕ
begun first end n = cond (leb end first) n first

-- a child, number n, goes to the end of its owner's range
unfoldable pub extended : Cols → ℕ → ℕ → ℕ → ℕ → Cols
extended C first end owner n = write (write C first owner (begun (at C first owner) (at C end owner) n)) end owner (n + 1)

-- the last child before n, with which its owner's range ends, is linked to n; w is the owner's word in a column of owners
unfoldable pub last_linked : Cols → ℕ → ℕ → ℕ → ℕ → ℕ → Cols
last_linked C owners links end w n = cond (behind_child C owners n w end) (write C links (end - 1) n) C

-- and n to no child yet
unfoldable pub child_linked : Cols → ℕ → ℕ → ℕ → ℕ → ℕ → Cols
child_linked C owners links end w n = write (last_linked C owners links end w n) links n 0

-- a child, number n, is linked, and goes to the end of its owner's range
unfoldable pub child_placed : Cols → ℕ → ℕ → ℕ → ℕ → ℕ → ℕ → ℕ → Cols
child_placed C owners links first end owner w n = extended (child_linked C owners links (at C end owner) w n) first end owner n

unfoldable pub op_placed : Cols → Option ℕ → ℕ → Cols
op_placed C None n = C
op_placed C (Some b) n = child_placed C op_parent op_next block_op_first block_op_end b (b + 1) n

-- so many regions, of operation n, without blocks
unfoldable pub with_regions : Cols → ℕ → ℕ → Cols
with_regions C n regions =
    write
    (write_range (write_range (write_range C region_op (region_count C) (replicate regions n)) region_block_first (region_count C) (replicate regions 0)) region_block_end (region_count C) (replicate regions 0))
    counts 2 (region_count C + regions)

-- a list appended to a shared list, whose length is word c of the counts
unfoldable pub with_slice : Cols → ℕ → ℕ → List ℕ → Cols
with_slice C k c xs = write (write_range C k (at C counts c) xs) counts c (at C counts c + length xs)

-- the words of a new operation's row: from its kind on, from where its regions begin, and from where its operands begin
unfoldable pub op_head : ℕ → ℕ → ℕ → ℕ → List ℕ
op_head kind parent location depth = kind ∷ parent ∷ location ∷ depth ∷ []

unfoldable pub op_ranges : Cols → ℕ → ℕ → List ℕ
op_ranges C regions results = region_count C ∷ (region_count C + regions) ∷ value_count C ∷ (value_count C + results) ∷ []

unfoldable pub op_slices : Cols → ℕ → ℕ → List ℕ
op_slices C operands successors =
    operand_count C ∷ (operand_count C + operands)
    ∷ successor_count C ∷ (successor_count C + successors)
    ∷ 0
    ∷ []

unfoldable pub op_row : Cols → ℕ → ℕ → ℕ → ℕ → ℕ → ℕ → ℕ → ℕ → List ℕ
unfolding op_head op_ranges op_slices
op_row C kind parent location depth regions results operands successors =
    op_head kind parent location depth ++ op_ranges C regions results ++ op_slices C operands successors

unfoldable pub op_written : Cols → ℕ → Option ℕ → ℕ → ℕ → ℕ → ℕ → ℕ → Cols
op_written C kind parent location regions results operands successors =
    op_placed
    (with_row C op_kind (op_count C) (op_row C kind (parent_code parent) location (depth_under C parent) regions results operands successors))
    parent (op_count C)

unfoldable pub with_operation : Cols → NewOperation → Cols
with_operation C o =
    write
    (with_slice
    (with_slice
    (with_values
    (with_regions
    (op_written C o.kind o.parent o.location o.regions (length o.types) (length o.operands) (length o.successors))
    (op_count C) o.regions)
    (of_op (op_count C)) o.types)
    operand_words 4 o.operands)
    successor_words 5 o.successors)
    counts 0 (op_count C + 1)

-- ---- new block

-- the row of block m, from its region on
unfoldable pub block_written : Cols → ℕ → ℕ → ℕ → ℕ → Cols
block_written C m region location arguments =
    with_row C block_region m (region ∷ location ∷ value_count C ∷ (value_count C + arguments) ∷ 0 ∷ 0 ∷ 0 ∷ [])

unfoldable pub block_placed : Cols → ℕ → ℕ → Cols
block_placed C region m = child_placed C block_region block_next region_block_first region_block_end region region m

unfoldable pub with_block : Cols → NewBlock → Cols
with_block C b =
    write
    (with_values
    (block_placed (block_written C (block_count C) b.region b.location (length b.types)) b.region (block_count C))
    (of_block (block_count C)) b.types)
    counts 1 (block_count C + 1)
