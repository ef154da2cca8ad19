-- Which buffers are sound: of the right length, laid out, and sound by document 01's rules for what they are read as.
use Rattle.std.specs.Prelude.{ℕ, zero, suc, ◌+◌, ◌-◌, Bool, true, false, cond, ◌&&◌, List, [], ◌∷◌, ◌≡◌, eqb, leb, ltb, length, get_or, Option, None, Some}
use Rattle.rules.specs.Lists.{every, all_below, sum}
use Rattle.std.specs.List.{list_all}
use Rattle.rules.specs.Store.{sound, block_after, attributes_hold, max_nesting, max_ops, max_blocks, max_regions, max_values, max_operands, max_successors, max_attributes, max_own_keys, max_own_regions, max_own_values, max_own_operands, max_own_successors}
use Rattle.rules.specs.declared.types.Owner.{Owner}
use Rattle.rules.specs.declared.types.Owner.TheVariants.{Op as of_op, Block as of_block}
use Rattle.layout.specs.Columns.{Cols, at, columns, buffer_length, op_parent, op_depth, op_region_first, op_region_end, op_result_first, op_result_end, op_operand_first, op_operand_end, op_successor_first, op_successor_end, op_attributes, region_op, region_block_first, region_block_end, block_region, block_argument_first, block_argument_end, block_op_first, block_op_end, block_attributes, value_owner, op_next, block_next}
use Rattle.layout.specs.Reading.{tabulate, op_count, block_count, region_count, value_count, operand_count, successor_count, attribute_count, around, parent_from, owner_from, owner_code, op_of, block_of, store_of}
use Rattle.layout.specs.Children.{first_word, word_from}

-- ---- ranges

-- the range begins no later than it ends, and ends within so many
unfoldable pub ranged : ℕ → ℕ → ℕ → Bool
ranged a e n = leb a e && leb e n

-- n lies in the range
unfoldable pub within : ℕ → ℕ → ℕ → Bool
within a e n = leb a n && ltb n e

-- each entry of a column in the range is w
unfoldable pub owned : Cols → ℕ → ℕ → ℕ → ℕ → Bool
owned C k a e w = all_below (e - a) (λ (i : ℕ). eqb (at C k (a + i)) w)

-- the range ends within so many, and each entry of a column in it is w
unfoldable pub owned_within : Cols → ℕ → ℕ → ℕ → ℕ → ℕ → Bool
owned_within C k a e n w = ranged a e n && owned C k a e w

-- where the slice of a shared list ends that stands before operation n's
unfoldable pub end_before : Cols → ℕ → ℕ → ℕ
end_before C k zero = 0
end_before C k (suc n) = at C k n

-- an operation's slice of a shared list begins where the one before it ends, and ends within so many
unfoldable pub tiled : Cols → ℕ → ℕ → ℕ → ℕ → Bool
tiled C first end n total = eqb (at C first n) (end_before C end n) && ranged (at C first n) (at C end n) total

-- ---- rows

-- an operation stands in a block of the store that stands in an operation before it, one region deeper, and in its block's range
unfoldable pub placed : Cols → ℕ → Option ℕ → Bool
placed C n None = eqb (at C op_depth n) 0
placed C n (Some b) =
    every
    (ltb b (block_count C)
    ∷ ltb (at C block_region b) (region_count C)
    ∷ ltb (around C b) n
    ∷ eqb (at C op_depth n) (at C op_depth (around C b) + 1)
    ∷ within (at C block_op_first b) (at C block_op_end b) n
    ∷ [])

-- the regions in an operation's range are its own, and so are its results, and a block's arguments
unfoldable pub regions_owned : Cols → ℕ → Bool
regions_owned C n = owned_within C region_op (at C op_region_first n) (at C op_region_end n) (region_count C) n

unfoldable pub results_owned : Cols → ℕ → Bool
results_owned C n = owned_within C value_owner (at C op_result_first n) (at C op_result_end n) (value_count C) (owner_code (of_op n))

unfoldable pub arguments_owned : Cols → ℕ → Bool
arguments_owned C m = owned_within C value_owner (at C block_argument_first m) (at C block_argument_end m) (value_count C) (owner_code (of_block m))

-- its slices of the two shared lists
unfoldable pub lists_tiled : Cols → ℕ → Bool
lists_tiled C n = tiled C op_operand_first op_operand_end n (operand_count C) && tiled C op_successor_first op_successor_end n (successor_count C)

unfoldable pub op_laid : Cols → ℕ → Bool
op_laid C n =
    every
    (placed C n (parent_from (at C op_parent n))
    ∷ regions_owned C n
    ∷ results_owned C n
    ∷ lists_tiled C n
    ∷ leb (at C op_attributes n) max_own_keys
    ∷ [])

unfoldable pub block_laid : Cols → ℕ → Bool
block_laid C m =
    every
    (ltb (at C block_region m) (region_count C)
    ∷ within (at C region_block_first (at C block_region m)) (at C region_block_end (at C block_region m)) m
    ∷ arguments_owned C m
    ∷ leb (at C block_op_end m) (op_count C)
    ∷ leb (at C block_attributes m) max_own_keys
    ∷ [])

unfoldable pub region_laid : Cols → ℕ → Bool
region_laid C r =
    every
    (ltb (at C region_op r) (op_count C)
    ∷ within (at C op_region_first (at C region_op r)) (at C op_region_end (at C region_op r)) r
    ∷ leb (at C region_block_end r) (block_count C)
    ∷ [])

-- a value lies in its owner's range
unfoldable pub in_owner : Cols → ℕ → Owner → Bool
in_owner C v (of_op n) = ltb n (op_count C) && within (at C op_result_first n) (at C op_result_end n) v
in_owner C v (of_block b) = ltb b (block_count C) && within (at C block_argument_first b) (at C block_argument_end b) v

unfoldable pub value_laid : Cols → ℕ → Bool
value_laid C v = in_owner C v (owner_from (at C value_owner v))

-- row i of a table; a table is named by its index among the counts: operations, blocks, regions, values
unfoldable pub row_laid : Cols → ℕ → ℕ → Bool
row_laid C table i = get_or (op_laid C i ∷ block_laid C i ∷ region_laid C i ∷ value_laid C i ∷ []) table false

-- ---- links: from each child of a block or region to the next one

-- the next of so many children that has the same word in a column of owners as n has, or 0
unfoldable pub next_child : Cols → ℕ → ℕ → ℕ → ℕ
next_child C owners count n = word_from (first_word C owners (at C owners n) (n + 1) (count - (n + 1)))

-- the link of child n is the number of the next child; with the last one, whose link is 0, the range of children ends
unfoldable pub link_holds : ℕ → ℕ → ℕ → ℕ → Bool
link_holds next link end n = eqb link next && cond (eqb next 0) (eqb end (n + 1)) true

-- an operation in a block, for the number of the next one
unfoldable pub parent_linked : Cols → ℕ → Option ℕ → ℕ → Bool
parent_linked C n None next = true
parent_linked C n (Some b) next = link_holds next (at C op_next n) (at C block_op_end b) n

unfoldable pub op_linked : Cols → ℕ → Bool
op_linked C n = parent_linked C n (parent_from (at C op_parent n)) (next_child C op_parent (op_count C) n)

unfoldable pub block_linked : Cols → ℕ → Bool
block_linked C m = link_holds (next_child C block_region (block_count C) m) (at C block_next m) (at C region_block_end (at C block_region m)) m

-- ---- counts

unfoldable pub attribute_sum : Cols → ℕ
attribute_sum C = sum (tabulate (op_count C) (at C op_attributes)) + sum (tabulate (block_count C) (at C block_attributes))

unfoldable pub counts_hold : Cols → Bool
counts_hold C =
    every
    (leb (op_count C) max_ops
    ∷ leb (block_count C) max_blocks
    ∷ leb (region_count C) max_regions
    ∷ leb (value_count C) max_values
    ∷ leb (operand_count C) max_operands
    ∷ leb (successor_count C) max_successors
    ∷ leb (attribute_count C) max_attributes
    ∷ [])

-- the shared lists end where the last operation's slice ends, and there are as many attributes as their owners count
unfoldable pub counts_laid : Cols → Bool
counts_laid C =
    every
    (eqb (end_before C op_operand_end (op_count C)) (operand_count C)
    ∷ eqb (end_before C op_successor_end (op_count C)) (successor_count C)
    ∷ eqb (attribute_sum C) (attribute_count C)
    ∷ [])

-- ---- what document 01 asks of a buffer that is laid out, row by row

unfoldable pub op_rules : Cols → ℕ → Bool
op_rules C n =
    every
    (list_all (λ (v : ℕ). ltb v (value_count C)) (op_of C n).operands
    ∷ list_all (λ (b : ℕ). ltb b (block_count C)) (op_of C n).successors
    ∷ leb (at C op_depth n) max_nesting
    ∷ leb (at C op_region_end n - at C op_region_first n) max_own_regions
    ∷ leb (at C op_result_end n - at C op_result_first n) max_own_values
    ∷ leb (at C op_operand_end n - at C op_operand_first n) max_own_operands
    ∷ leb (at C op_successor_end n - at C op_successor_first n) max_own_successors
    ∷ attributes_hold (op_of C n).attributes
    ∷ [])

unfoldable pub block_rules : Cols → ℕ → Bool
block_rules C m =
    every
    (block_after m (parent_from (at C op_parent (around C m)))
    ∷ leb (at C block_argument_end m - at C block_argument_first m) max_own_values
    ∷ attributes_hold (block_of C m).attributes
    ∷ [])

unfoldable pub rules_hold : Cols → Bool
rules_hold C = all_below (op_count C) (op_rules C) && all_below (block_count C) (block_rules C)

-- ---- the buffer

-- of the right length, and its counts within the totals: so rows can be read
pub record CountsBounded (b : List ℕ) : Type 0 where
  pub sized : length b ≡ buffer_length
  pub counted : counts_hold (columns b) ≡ true

unfoldable pub laid_out : Cols → Bool
laid_out C =
    every
    (counts_hold C
    ∷ all_below (op_count C) (op_laid C)
    ∷ all_below (block_count C) (block_laid C)
    ∷ all_below (region_count C) (region_laid C)
    ∷ all_below (value_count C) (value_laid C)
    ∷ counts_laid C
    ∷ all_below (op_count C) (op_linked C)
    ∷ all_below (block_count C) (block_linked C)
    ∷ [])

-- of the right length, and laid out: so what the words are read as can be found by them
pub record Arranged (b : List ℕ) : Type 0 where
  pub sized : length b ≡ buffer_length
  pub laid : laid_out (columns b) ≡ true

unfoldable pub sound_buffer : List ℕ → Bool
sound_buffer b = every (eqb (length b) buffer_length ∷ laid_out (columns b) ∷ sound (store_of (columns b)) ∷ [])

-- sound, as facts: what functions ask for that do not test it
pub record IsSound (b : List ℕ) : Type 0 where
  pub sized : length b ≡ buffer_length
  pub laid : laid_out (columns b) ≡ true
  pub ruled : sound (store_of (columns b)) ≡ true
