-- 01, "Hash": the bytes that each step of the walk feeds, and FNV-1a over them. The bytes have one parameter: what stands ahead of a
-- list, given its length. In a hash that is nothing; in a key (`Keys`) it is the count.
use Rattle.std.specs.Prelude.{ℕ, zero, suc, ◌*◌, ◌/◌, ◌%◌, ◌^◌, Bool, cond, List, [], ◌∷◌, ◌++◌, length, Option, None, Some}
use Rattle.std.specs.Int.Bits.{bit_xor}
use Rattle.rules.specs.declared.types.Name.{Name}
use Rattle.rules.specs.declared.types.Name.TheVariants.{WalkNumber as walk_number, StoreNumber as store_number}
use Rattle.std.specs.List.{flat_map}
use Rattle.rules.specs.Lists.{position}
use Rattle.rules.specs.Store.{Store, op_at, regions_of, values_of}
use Rattle.rules.specs.declared.types.Attribute.{Attribute}
use Rattle.rules.specs.declared.types.Owner.{Owner}
use Rattle.rules.specs.declared.types.Owner.TheVariants.{Op as of_op, Block as of_block}
use Rattle.rules.specs.Fragments.{Step, shell, names, counted, steps, block_owner}
use Rattle.rules.specs.declared.types.Sort.{Sort}
use Rattle.rules.specs.Shells.{Shell, shell_of}
use Rattle.rules.specs.declared.types.Ignore.{Ignore}

-- ---- FNV-1a: "start 14695981039346656037; each byte is xored in, then the word is multiplied by 1099511628211 modulo 2^64"

abbrev pub fnv_start : ℕ
fnv_start = 14695981039346656037

abbrev pub fnv_prime : ℕ
fnv_prime = 1099511628211

unfoldable pub fnv_byte : ℕ → ℕ → ℕ
fnv_byte w b = (bit_xor w b * fnv_prime) % 2 ^ 64

unfoldable pub fnv_from : ℕ → List ℕ → ℕ
fnv_from w [] = w
fnv_from w (b ∷ bs) = fnv_from (fnv_byte w b) bs

unfoldable pub fnv : List ℕ → ℕ
fnv bs = fnv_from fnv_start bs

-- ---- "Leaves feed 4 bytes, counts and walk numbers 8, tags 1, lowest byte first."

unfoldable pub bytes : ℕ → ℕ → List ℕ
bytes zero n = []
bytes (suc k) n = n % 256 ∷ bytes k (n / 256)

unfoldable pub leaf : ℕ → List ℕ
leaf n = bytes 4 n

unfoldable pub count : ℕ → List ℕ
count n = bytes 8 n

unfoldable pub tag : ℕ → List ℕ
tag n = bytes 1 n

-- ---- lists

-- a hash takes in no count of results, arguments, operands, successors, blocks or operations
abbrev pub uncounted : ℕ → List ℕ
uncounted n = []

-- a list, behind what stands ahead of it
unfoldable pub list_bytes : {A : Type 0} → (ℕ → List ℕ) → (A → List ℕ) → List A → List ℕ
list_bytes ahead f xs = ahead (length xs) ++ flat_map f xs

-- ---- shells

unfoldable pub location_bytes : Option ℕ → List ℕ
location_bytes None = []
location_bytes (Some l) = leaf l

-- "one byte, 1 for yes and 0 for no"
unfoldable pub flag : Bool → List ℕ
flag b = cond b 1 0 ∷ []

-- "each by rising key as key, kind, content", and the flag "after the content"
unfoldable pub attribute_bytes : Attribute → List ℕ
attribute_bytes a = leaf a.key ++ leaf a.kind ++ leaf a.content ++ flag a.inherent

-- "location unless ignored, number of unignored attributes, each ...; result types"
unfoldable pub shell_bytes : (ℕ → List ℕ) → Shell → List ℕ
shell_bytes ahead sh =
    location_bytes sh.location
    ++ count (length sh.attributes)
    ++ flat_map attribute_bytes sh.attributes
    ++ list_bytes ahead leaf sh.types

-- "Operation shell: kind, number of regions", then as a block's
unfoldable pub head_bytes : Store → Owner → List ℕ
head_bytes s (of_op n) = leaf (op_at s n).kind ++ count (length (regions_of s n))
head_bytes s (of_block b) = []

-- ---- walk numbers: a walk number is a place in the list of what is defined so far, "blocks counted apart from values"

pub record Numbering : Type 0 where
  pub values : List ℕ
  pub blocks : List ℕ

unfoldable pub no_numbers : Numbering
no_numbers = record { values = []; blocks = [] }

-- "Then its results get the next walk numbers, from 0", "Then block and arguments get the next numbers"
unfoldable pub numbered : Store → Step → Numbering → Numbering
numbered s (shell w) N = record { values = N.values ++ values_of s w; blocks = N.blocks ++ block_owner w }
numbered s (names n) N = N
numbered s (counted k) N = N

-- a name inside the walk has a walk number, one outside its store number
unfoldable pub name_at : Option ℕ → ℕ → Name
name_at None n = store_number n
name_at (Some i) n = walk_number i

unfoldable pub name_of : List ℕ → ℕ → Name
name_of defined n = name_at (position n defined) n

-- "tag 0 and its walk number, or, not yet numbered, tag 1 and its store number in 4 bytes"
unfoldable pub name_bytes : Name → List ℕ
name_bytes (walk_number i) = tag 0 ++ count i
name_bytes (store_number n) = tag 1 ++ leaf n

-- ---- the bytes of a walk

unfoldable pub feeds : (ℕ → List ℕ) → Store → Ignore → Step → Numbering → List ℕ
feeds ahead s ig (shell w) N = head_bytes s w ++ shell_bytes ahead (shell_of s ig w)
feeds ahead s ig (names n) N =
    list_bytes ahead (λ (v : ℕ). name_bytes (name_of N.values v)) (op_at s n).operands
    ++ list_bytes ahead (λ (b : ℕ). name_bytes (name_of N.blocks b)) (op_at s n).successors
feeds ahead s ig (counted k) N = ahead k

unfoldable pub all_bytes : (ℕ → List ℕ) → Store → Ignore → List Step → Numbering → List ℕ
all_bytes ahead s ig [] N = []
all_bytes ahead s ig (x ∷ xs) N = feeds ahead s ig x N ++ all_bytes ahead s ig xs (numbered s x N)

-- `operation_hash`, `basic_block_hash`, `region_hash`
unfoldable pub hash : Store → Ignore → Sort → ℕ → ℕ
hash s ig f n = fnv (all_bytes uncounted s ig (steps s f n) no_numbers)
