-- The numbering as 1,026 words. An owner's values are consecutive in the store and in the walk, so one word for each owner tells all their
-- walk numbers; each block has a word for its own; the last two are how many values and how many blocks are numbered.
use Rattle.std.specs.Prelude.{◌≡◌, ℕ, ◌+◌, ◌-◌, ◌*◌, ◌<◌, cond, ◌≢◌, List, length, ◌==◌, slice_index, slice_set, Option, None, Some}
use Rattle.rules.specs.Lists.{position}
use Rattle.rules.specs.Store.{Store, value_at, max_blocks}
use Rattle.rules.specs.Hash as rules
use Rattle.rules.specs.Hash.{Numbering, name_at, name_of}
use Rattle.layout.specs.Reading.{owner_code}
use Rattle.rules.specs.declared.types.Name.{Name}

abbrev pub numbers_length : ℕ
numbers_length = 1026

-- the place of the word for a block's own number
abbrev pub block_place : ℕ → ℕ
block_place b = 513 + 2 * b

-- what a word tells of n: it isn't set, and n has no number; or it is, and is so far above 2,048 as the walk number i is above n
unfoldable pub Tells : ℕ → ℕ → Option ℕ → Type 0
Tells word n None = word ≡ 0
Tells word n (Some i) = (word ≢ 0) × (word + n ≡ i + 2048)

-- how much is numbered, by the last two words
abbrev pub values_numbered : List ℕ → ℕ
values_numbered numbers = slice_index numbers 1024

abbrev pub blocks_numbered : List ℕ → ℕ
blocks_numbered numbers = slice_index numbers 1025

-- the words stand for the numbering: each value and block has the number of the first place at which it stands there
pub record Stands (s : Store) (N : Numbering) (numbers : List ℕ) : Type 0 where
  pub values : (v : ℕ) → v < length s.values → Tells (slice_index numbers (owner_code (value_at s v).owner)) v (position v N.values)
  pub blocks : (b : ℕ) → b < max_blocks → Tells (slice_index numbers (block_place b)) b (position b N.blocks)
  pub value_count : values_numbered numbers ≡ length N.values
  pub block_count : blocks_numbered numbers ≡ length N.blocks

-- ---- more is numbered

-- the word at i is w, unless it is set already
unfoldable pub define_at : List ℕ → ℕ → ℕ → List ℕ
define_at numbers i w = cond (slice_index numbers i == 0) (slice_set numbers i w) numbers

-- the next numbers by a counter go to so many numbers of the store, from the first on, whose word is at this place
unfoldable pub with_run : List ℕ → ℕ → ℕ → ℕ → ℕ → List ℕ
with_run numbers place counter first count = slice_set (define_at numbers place (slice_index numbers counter + 2048 - first)) counter (slice_index numbers counter + count)

-- ---- names

-- whatever number the word tells of n, a use of n is named like this
abbrev pub Named : ℕ → ℕ → Name → Type 0
Named word n r = (o : Option ℕ) → Tells word n o → r ≡ name_at o n

-- whatever numbering the words stand for, a use of value v, or of block b, is named like this
abbrev pub NamesValue : Store → List ℕ → ℕ → Name → Type 0
NamesValue s numbers v r = (N : Numbering) → Stands s N numbers → r ≡ name_of N.values v

abbrev pub NamesBlock : List ℕ → ℕ → Name → Type 0
NamesBlock numbers b r = (s : Store) (N : Numbering) → Stands s N numbers → r ≡ name_of N.blocks b
