-- A lent mapping: 2,816 words, the entries of values, then of blocks, then of operations.
use Rattle.std.specs.Prelude.{ℕ, Bool, ◌&&◌, ◌||◌, List, take, drop, replicate, ◌==◌, nat_lt, slice_set}
use Rattle.rules.specs.Store.{Store, type_of, max_values, max_blocks}
use Rattle.rules.specs.Mapping.{Mapping, no_image, image, enter_all}
use Rattle.rules.specs.Comparison.{operands_agree, successors_agree}

abbrev pub mapping_length : ℕ
mapping_length = 2816

-- the rules' mapping that the words are read as; whatever follows the entries of blocks are those of operations, so that words of
-- another length are no allowed mapping
unfoldable pub mapping_of : List ℕ → Mapping
mapping_of b = record { values = take max_values b; blocks = take max_blocks (drop 2048 b); ops = drop 2304 b }

-- "An empty mapping has none in every entry": the words to lend
unfoldable pub empty_words : List ℕ
empty_words = replicate mapping_length no_image

-- "every left number and image used exists in the store": the entry of a number that exists, in a store with so many
unfoldable pub image_allowed : ℕ → ℕ → Bool
image_allowed count e = e == no_image || nat_lt e count

-- the entry of any other number
unfoldable pub unmapped : ℕ → Bool
unmapped e = e == no_image

-- ---- entries made

unfoldable pub op_mapped : Mapping → ℕ → ℕ → Mapping
op_mapped m l r = record { values = m.values; blocks = m.blocks; ops = slice_set m.ops l r }

unfoldable pub block_mapped : Mapping → ℕ → ℕ → Mapping
block_mapped m l r = record { values = m.values; blocks = slice_set m.blocks l r; ops = m.ops }

-- pair by pair, up to the shorter end
unfoldable pub values_mapped : Mapping → List ℕ → List ℕ → Mapping
values_mapped m ls rs = record { values = enter_all ls rs m.values; blocks = m.blocks; ops = m.ops }

-- ---- single tests

-- "each operand's image equals the right operand, and left and right operand have equal types": one pair
unfoldable pub same_operand : Store → Mapping → ℕ → ℕ → Bool
same_operand s m a b = image m.values a == b && type_of s a == type_of s b

-- "each successor's image equals the right one": one pair
unfoldable pub same_successor : Mapping → ℕ → ℕ → Bool
same_successor m a b = image m.blocks a == b

-- ---- what two operations name

abbrev pub names_agree : Store → Mapping → ℕ → ℕ → Bool
names_agree s m l r = operands_agree s m l r && successors_agree s m l r
