-- The children of an owner, as the columns of their sort tell them.
use Rattle.std.specs.Prelude.{ℕ, ◌+◌, ◌-◌, ◌<◌, ◌≤◌, max, Bool, true, cond, ltb, List, ◌≡◌}
use Rattle.layout.specs.Columns.{Cols, at, counts, column_count, column_size, op_parent, op_next, block_op_first, block_op_end, block_region, block_next, region_block_first, region_block_end}
use Rattle.layout.specs.Children.{first_from, first_word}
use Rattle.layout.specs.Soundness.{next_child, link_holds}
use Rattle.layout.specs.declared.families.Family.{Family}

-- the children of the owner whose word is w, with a range from `first` to `end`, are those of the list
pub record Children (C : Cols) (owners links count w first end : ℕ) (xs : List ℕ) : Type 0 where
  pub all : (n : ℕ) → first_from n xs ≡ first_word C owners w n (count - n)
  pub ranged : (n : ℕ) → first_from n xs ≡ first_word C owners w (max n first) (end - max n first)
  pub linked : (n : ℕ) → n < count → at C owners n ≡ w → at C links n ≡ next_child C owners count n
  pub ends : end ≤ count

-- the columns are there, and long enough for all children and for this owner, whose children are those of the list
pub record OwnsChildren (C : Cols) (f : Family) (owner : ℕ) (xs : List ℕ) : Type 0 where
  pub table : f.table < 8
  pub owners : f.owners < column_count
  pub links : f.links < column_count
  pub firsts : f.firsts < column_count
  pub ends : f.ends < column_count
  pub word : owner + f.offset ≤ 512
  pub owned : at C counts f.table ≤ column_size f.owners
  pub linked : at C counts f.table ≤ column_size f.links
  pub begun : owner < column_size f.firsts
  pub ended : owner < column_size f.ends
  pub children : Children C f.owners f.links (at C counts f.table) (owner + f.offset) (at C f.firsts owner) (at C f.ends owner) xs

-- the columns are there, and each child's word in the column of owners tells an owner that has a range, or none
pub record Linkable (C : Cols) (f : Family) : Type 0 where
  pub table : f.table < 8
  pub owners : f.owners < column_count
  pub links : f.links < column_count
  pub ends : f.ends < column_count
  pub few : at C counts f.table ≤ 512
  pub owned : at C counts f.table ≤ column_size f.owners
  pub linked : at C counts f.table ≤ column_size f.links
  pub words : (i : ℕ) → i < at C counts f.table → at C f.owners i < 257
  pub ended : (i : ℕ) → i < at C counts f.table → at C f.owners i < column_size f.ends + f.offset

-- child n, whose owner's word is w, is linked to the next one, or has no owner
unfoldable pub child_linked_by : Cols → Family → ℕ → ℕ → ℕ → Bool
child_linked_by C f n w next = cond (ltb w f.offset) true (link_holds next (at C f.links n) (at C f.ends (w - f.offset)) n)

unfoldable pub child_linked : Cols → Family → ℕ → Bool
child_linked C f n = child_linked_by C f n (at C f.owners n) (next_child C f.owners (at C counts f.table) n)

-- operations in blocks, and blocks in regions
abbrev pub ops_in_blocks : Family
ops_in_blocks = record { table = 0; owners = op_parent; offset = 1; links = op_next; firsts = block_op_first; ends = block_op_end }

abbrev pub blocks_in_regions : Family
blocks_in_regions = record { table = 1; owners = block_region; offset = 0; links = block_next; firsts = region_block_first; ends = region_block_end }
