-- The buffer's words, as columns: runs of words of one meaning, one entry for each operation, block, region, value or attribute slot.
-- docs/STORE.md has the same as a table.
use Rattle.std.specs.Prelude.{ℕ, ◌+◌, cond, List, [], ◌∷◌, ◌++◌, eqb, length, get_or, set, take, drop, replicate}
use Rattle.rules.specs.Lists.{sum}

-- a column's number to its words
abbrev pub Cols : Type 0
Cols = ℕ → List ℕ

-- ---- the columns, by number

-- how many there are of: operations, blocks, regions, values, operands, successors, attributes, set marks
abbrev pub counts : ℕ
counts = 0

-- of an operation
abbrev pub op_kind : ℕ
op_kind = 1

-- 0 for none, else the block's number and one
abbrev pub op_parent : ℕ
op_parent = 2

abbrev pub op_location : ℕ
op_location = 3

-- the number of regions around it
abbrev pub op_depth : ℕ
op_depth = 4

-- where a range of numbers begins, and where it ends: the first number past it
abbrev pub op_region_first : ℕ
op_region_first = 5

abbrev pub op_region_end : ℕ
op_region_end = 6

abbrev pub op_result_first : ℕ
op_result_first = 7

abbrev pub op_result_end : ℕ
op_result_end = 8

abbrev pub op_operand_first : ℕ
op_operand_first = 9

abbrev pub op_operand_end : ℕ
op_operand_end = 10

abbrev pub op_successor_first : ℕ
op_successor_first = 11

abbrev pub op_successor_end : ℕ
op_successor_end = 12

-- how many attributes it has
abbrev pub op_attributes : ℕ
op_attributes = 13

-- of a region: its operation; its blocks lie in this range of numbers
abbrev pub region_op : ℕ
region_op = 14

abbrev pub region_block_first : ℕ
region_block_first = 15

abbrev pub region_block_end : ℕ
region_block_end = 16

-- of a block; its operations lie in this range of numbers
abbrev pub block_region : ℕ
block_region = 17

abbrev pub block_location : ℕ
block_location = 18

abbrev pub block_argument_first : ℕ
block_argument_first = 19

abbrev pub block_argument_end : ℕ
block_argument_end = 20

abbrev pub block_op_first : ℕ
block_op_first = 21

abbrev pub block_op_end : ℕ
block_op_end = 22

abbrev pub block_attributes : ℕ
block_attributes = 23

-- of a value: its type, and its owner as twice the number, and one more for a block
abbrev pub value_type : ℕ
value_type = 24

abbrev pub value_owner : ℕ
value_owner = 25

-- the shared lists of operands and of successors
abbrev pub operand_words : ℕ
operand_words = 26

abbrev pub successor_words : ℕ
successor_words = 27

-- of an attribute slot
abbrev pub slot_key : ℕ
slot_key = 28

abbrev pub slot_kind : ℕ
slot_kind = 29

abbrev pub slot_content : ℕ
slot_content = 30

-- of an operation in a block: the next operation of the block, or 0
abbrev pub op_next : ℕ
op_next = 31

-- of a block: the next block of its region, or 0
abbrev pub block_next : ℕ
block_next = 32

-- of a set mark, the oldest first: its number, its place in the journal, and 8 words of the counts at its setting, the last of which is spare
abbrev pub mark_number : ℕ
mark_number = 33

abbrev pub mark_place : ℕ
mark_place = 34

abbrev pub mark_counts : ℕ
mark_counts = 35

-- how many entries the journal has, and how many of them are replacements; the other words are spare
abbrev pub journal_counts : ℕ
journal_counts = 36

-- of an entry of the journal: 0 for an operand, 1 for an attribute, 2 for a new key; the operation or the owner's code; the operand's index or
-- the key; the value or the kind, and the content, as it was
abbrev pub journal_sort : ℕ
journal_sort = 37

abbrev pub journal_owner : ℕ
journal_owner = 38

abbrev pub journal_key : ℕ
journal_key = 39

abbrev pub journal_kind : ℕ
journal_kind = 40

abbrev pub journal_content : ℕ
journal_content = 41

abbrev pub column_count : ℕ
column_count = 42

-- ---- where they stand, one behind the other

-- attribute slots: 8 for each operation, then 8 for each block
abbrev pub first_block_slot : ℕ
first_block_slot = 4096

abbrev pub slot_count : ℕ
slot_count = 6144

abbrev pub column_sizes : List ℕ
column_sizes =
    8
    ∷ 512 ∷ 512 ∷ 512 ∷ 512 ∷ 512 ∷ 512 ∷ 512 ∷ 512 ∷ 512 ∷ 512 ∷ 512 ∷ 512 ∷ 512
    ∷ 256 ∷ 256 ∷ 256
    ∷ 256 ∷ 256 ∷ 256 ∷ 256 ∷ 256 ∷ 256 ∷ 256
    ∷ 2048 ∷ 2048
    ∷ 2048 ∷ 512
    ∷ slot_count ∷ slot_count ∷ slot_count
    ∷ 512 ∷ 256
    ∷ 8 ∷ 8 ∷ 64
    ∷ 8 ∷ 2048 ∷ 2048 ∷ 2048 ∷ 2048 ∷ 2048
    ∷ []

abbrev pub column_size : ℕ → ℕ
column_size k = get_or column_sizes k 0

unfoldable pub base : ℕ → ℕ
base k = sum (take k column_sizes)

-- the buffer's length in words
abbrev pub buffer_length : ℕ
buffer_length = 45408

-- an empty store's words
unfoldable pub empty_buffer : List ℕ
empty_buffer = replicate buffer_length 0

unfoldable pub columns : List ℕ → Cols
columns b k = take (column_size k) (drop (base k) b)

-- one word
unfoldable pub at : Cols → ℕ → ℕ → ℕ
at C k n = get_or (C k) n 0

-- a list with another written into it, from n on
abbrev pub pasted : List ℕ → ℕ → List ℕ → List ℕ
pasted xs n vs = take n xs ++ vs ++ drop (n + length vs) xs

-- ---- what is written: one word, or a run of words, of one column

unfoldable pub write : Cols → ℕ → ℕ → ℕ → Cols
write C k n v j = cond (eqb j k) (set (C j) n v) (C j)

unfoldable pub write_range : Cols → ℕ → ℕ → List ℕ → Cols
write_range C k n vs j = cond (eqb j k) (pasted (C j) n vs) (C j)
