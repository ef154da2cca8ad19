-- What cutting the tables writes, column by column.
use Rattle.std.specs.Prelude.{ℕ, zero, suc, ◌+◌, ◌*◌, ◌-◌, ◌<◌, ◌≤◌, false, cond, List, ◌≡◌, eqb, leb, get_or, set, replicate}
use Rattle.layout.specs.Columns.{Cols, column_count, column_size, at, write_range, counts, mark_counts}
use Rattle.layout.specs.Families.{ops_in_blocks, blocks_in_regions}
use Rattle.layout.specs.declared.families.Family.{Family}

-- column k is this one, the others are as they were
unfoldable pub with_column : Cols → ℕ → List ℕ → Cols
with_column C k xs j = cond (eqb j k) xs (C j)

-- the first n words are f of their place, the others are as they were
unfoldable pub first_by : ℕ → (ℕ → ℕ) → List ℕ → List ℕ
first_by zero f xs = xs
first_by (suc n) f xs = set (first_by n f xs) n (f n)

-- ---- the counts of a mark's row

unfoldable pub counts_taken : Cols → ℕ → Cols
counts_taken C row = with_column C counts (first_by 7 (λ (i : ℕ). at C mark_counts (8 * row + i)) (C counts))

-- ---- links and ranges of so many children that stay

-- a link to a child that is cut leads nowhere
unfoldable pub link_cut : ℕ → ℕ → ℕ
link_cut count link = cond (leb count link) 0 link

-- where the ranges of owners end once child n is seen: behind it, if it names an owner. The owner's word is above its number by `offset`
unfoldable pub end_put : ℕ → ℕ → ℕ → List ℕ → List ℕ
end_put offset w n ends = cond (leb offset w) (set ends (w - offset) (n + 1)) ends

-- and once the first n are seen
unfoldable pub ends_of : List ℕ → ℕ → ℕ → List ℕ → List ℕ
ends_of owners offset zero ends = ends
ends_of owners offset (suc n) ends = end_put offset (get_or owners n 0) n (ends_of owners offset n ends)

unfoldable pub links_cut : Cols → ℕ → ℕ → Cols
links_cut C links count = with_column C links (first_by count (λ (i : ℕ). link_cut count (at C links i)) (C links))

unfoldable pub end_made : Cols → ℕ → ℕ → ℕ → ℕ → Cols
end_made C ends offset w n = with_column C ends (end_put offset w n (C ends))

unfoldable pub ends_made : Cols → ℕ → ℕ → ℕ → ℕ → Cols
ends_made C owners ends offset count = with_column C ends (ends_of (C owners) offset count (C ends))

-- what is asked of columns of children: their table is named by its index among the counts, and their owners' table is the next one there
pub record ChildrenFit (C : Cols) (f : Family) : Type 0 where
  pub table_in : f.table < 7
  pub owners_in : f.owners < column_count
  pub links_in : f.links < column_count
  pub ends_in : f.ends < column_count
  pub links_apart : eqb f.owners f.links ≡ false
  pub ends_apart : eqb f.owners f.ends ≡ false
  pub few : at C counts f.table ≤ 512
  pub owners_long : at C counts f.table ≤ column_size f.owners
  pub links_long : at C counts f.table ≤ column_size f.links
  pub ends_long : at C counts (f.table + 1) ≤ column_size f.ends
  pub words : (i : ℕ) → i < at C counts f.table → at C f.owners i < column_size f.ends + f.offset

-- the links of the children that stay, and where the ranges of the owners that stay end: without a child left, at 0
unfoldable pub children_cut : Cols → Family → Cols
children_cut C f =
    ends_made (write_range (links_cut C f.links (at C counts f.table)) f.ends 0 (replicate (at C counts (f.table + 1)) 0)) f.owners f.ends f.offset (at C counts f.table)

-- ---- all of it: the operations in blocks, and the blocks in regions

unfoldable pub ops_cut : Cols → Cols
ops_cut C = children_cut C ops_in_blocks

unfoldable pub blocks_cut : Cols → Cols
blocks_cut C = children_cut C blocks_in_regions

unfoldable pub tables_cut : Cols → ℕ → Cols
tables_cut C row = blocks_cut (ops_cut (counts_taken C row))
