-- Order 10, "The mapping as a document": what the mapping tells that an equal comparison leaves, begun with an empty one. It is filed with the
-- merge, and others read it backwards. All of it is about entries, not images: what has no entry is its own image, and no part of the document.
use Rattle.std.specs.Prelude.{ℕ, true, ◌↔◌, ◌≢◌, ◌≡◌, length, get_or}
use mathlib.Core.List.{List, Memᴰ}
use Rattle.rules.specs.Store.{Store, empty_store, sound}
use Rattle.rules.specs.Fragments.{defines_values, defines_blocks, fragment_ops, Premise}
use Rattle.rules.specs.declared.types.Sort.{Sort}
use Rattle.rules.specs.Building.{Call, after}
use Rattle.rules.specs.declared.types.Ignore.{Ignore}
use Rattle.rules.specs.Mapping.{Mapping, no_image, empty_mapping, enter_all}
use Rattle.rules.specs.Comparison.{standing, compare}
use Rattle.rules.specs.Marks.{MarkedCall, unmarked, after_marked}
use Rattle.rules.specs.Types.{renamed}
use Rattle.rules.specs.Laws.{Equal, In}
use Rattle.std.specs.Prelude.{ℕ, true, ◌↔◌, ◌≡◌, length, get_or}
use mathlib.Core.List.{List, Memᴰ}
use Rattle.rules.specs.Store.{Store, empty_store, sound}
use Rattle.rules.specs.Fragments.{Premise, fragment_ops}
use Rattle.rules.specs.Building.{Call, after}
use Rattle.rules.specs.Mapping.{Mapping, empty_mapping, allowed}
use Rattle.rules.specs.Types.{renamed}
use Rattle.rules.specs.Comparison.{standing, compare}
use Rattle.rules.specs.Laws.{In, Equal}
use Rattle.rules.specs.Marks.{unmarked, MarkedCall, after_marked}
use Rattle.rules.specs.Entered.{EnteredBy}

-- the mapping that is filed
unfoldable pub filed : Store → Ignore → Sort → ℕ → ℕ → Mapping
filed s ig f a b = (standing (compare s ig f a b empty_mapping)).mapping

-- a mapping's three tables, and what a fragment defines of each, in the order of the walk
pub data Table : Type 0 where
  values : Table
  blocks : Table
  ops : Table

unfoldable pub table_of : Mapping → Table → List ℕ
table_of m values = m.values
table_of m blocks = m.blocks
table_of m ops = m.ops

unfoldable pub defines_of : Store → Sort → ℕ → Table → List ℕ
defines_of s f n values = defines_values s f n
defines_of s f n blocks = defines_blocks s f n
defines_of s f n ops = fragment_ops s f n

-- r is the entry of l
abbrev pub Entry : List ℕ → ℕ → ℕ → Type 0
Entry table l r = (get_or table l no_image ≡ r) × (r ≢ no_image)

-- "it pairs every value, block and operation defined in the left fragment with exactly one in the right, and leaves none on the right over"
pub record Bijection (table left right : List ℕ) : Type 0 where
  pub each : (l : ℕ) → Memᴰ l left → (r : ℕ) × Entry table l r
  pub only : (l r : ℕ) → Entry table l r → Memᴰ l left × Memᴰ r right
  pub once : (l m r : ℕ) → Entry table l r → Entry table m r → l ≡ m
  pub over : (r : ℕ) → Memᴰ r right → (l : ℕ) × Entry table l r

-- "Read backwards it is the mapping"
unfoldable pub Backwards : Mapping → Mapping → Type 0
Backwards m n = (t : Table) (l r : ℕ) → Entry (table_of m t) l r ↔ Entry (table_of n t) r l

-- "Entry by entry, left to middle followed by middle to right is the mapping"
unfoldable pub Followed : Mapping → Mapping → Mapping → Type 0
Followed m n whole = (t : Table) (l r : ℕ) → Entry (table_of whole t) l r ↔ ((c : ℕ) × (Entry (table_of m t) l c × Entry (table_of n t) c r))

-- of operations, blocks and regions by the same statement. The first asks no premise
pub record MappingLaws (s : Store) (ig : Ignore) (f : Sort) : Type 0 where
  pub bijective :
      (a b : ℕ) → In s f a → In s f b → Equal s ig f a b
      → (t : Table) → Bijection (table_of (filed s ig f a b) t) (defines_of s f a t) (defines_of s f b t)
  pub backwards : (a b : ℕ) → In s f a → In s f b → Premise s f a b → Equal s ig f a b → Backwards (filed s ig f a b) (filed s ig f b a)
  pub followed :
      (a b c : ℕ) → In s f a → In s f b → In s f c → Premise s f a b → Premise s f b c
      → Equal s ig f a b → Equal s ig f b c → Followed (filed s ig f a b) (filed s ig f b c) (filed s ig f a c)

-- without the premise, where the comparisons that are named are equal
pub record MappingLawsApart (s : Store) (ig : Ignore) (f : Sort) : Type 0 where
  pub backwards : (a b : ℕ) → In s f a → In s f b → Equal s ig f a b → Equal s ig f b a → Backwards (filed s ig f a b) (filed s ig f b a)
  pub followed :
      (a b c : ℕ) → In s f a → In s f b → In s f c → Equal s ig f a b → Equal s ig f b c → Equal s ig f a c
      → Followed (filed s ig f a b) (filed s ig f b c) (filed s ig f a c)

-- the reason: the entries are the two orders of definition, side by side
unfoldable pub SideBySide : Type 0
SideBySide =
    (s : Store) → sound s ≡ true → (ig : Ignore) (f : Sort) (a b : ℕ) → In s f a → In s f b → Equal s ig f a b
    → (t : Table)
    → (table_of (filed s ig f a b) t ≡ enter_all (defines_of s f a t) (defines_of s f b t) (table_of empty_mapping t))
    × (length (defines_of s f a t) ≡ length (defines_of s f b t))

-- of every sound store, and after every list of calls
unfoldable pub MappingLawsOfSound : Type 0
MappingLawsOfSound = (s : Store) → sound s ≡ true → (ig : Ignore) (f : Sort) → MappingLaws s ig f × MappingLawsApart s ig f

unfoldable pub MappingLawsAfter : Type 0
MappingLawsAfter = (calls : List Call) (ig : Ignore) (f : Sort) → MappingLaws (after empty_store calls) ig f

-- marks set and gone back to and copies among them, under every list of renamed types
unfoldable pub MappingLawsMarked : Type 0
MappingLawsMarked =
    (calls : List MarkedCall) (types : List ℕ) (ig : Ignore) (f : Sort)
    → MappingLaws (renamed types (after_marked (unmarked empty_store) calls).store) ig f

-- it leaves the mapping allowed, so that it may be lent again: `allowed_kept`
unfoldable pub AllowedKept : Type 0
AllowedKept =
    (s : Store) → sound s ≡ true → (ig : Ignore) (f : Sort) (m : Mapping) → allowed s m ≡ true → (l r : ℕ) → In s f l → In s f r
    → allowed s (standing (compare s ig f l r m)).mapping ≡ true

-- begun with an empty mapping, it enters no more operations and blocks than it counts, and values only with their owner: `entered_by`
unfoldable pub EntersPaired : Type 0
EntersPaired =
    (s : Store) → sound s ≡ true → (ig : Ignore) (f : Sort) (l r : ℕ) → In s f l → In s f r
    → EnteredBy s (standing (compare s ig f l r empty_mapping)).mapping (standing (compare s ig f l r empty_mapping)).paired
