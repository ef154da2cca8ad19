-- Order 11: what is proved of copies. The copy has the number that the store's operations had before; it is the original's twin.
use Rattle.std.specs.Prelude.{ℕ, ◌+◌, ◌<◌, true, false, ◌&&◌, List, ◌↔◌, ◌≡◌, length, get_or, Option, None}
use Rattle.std.specs.List.{flat_map}
use Rattle.rules.specs.Store.{Store, sound, regions_of, values_of, op_exists, parent_exists, totals_hold}
use Rattle.rules.specs.Fragments.{steps, op_owner, block_owner, Premise}
use Rattle.rules.specs.declared.types.Sort.TheVariants.{Op as op}
use Rattle.rules.specs.Building.{first_failed}
use Rattle.rules.specs.declared.types.Ignore.{Ignore}
use Rattle.rules.specs.Types.{renamed}
use Rattle.rules.specs.Mapping.{empty_mapping}
use Rattle.rules.specs.Hash.{no_numbers, hash}
use Rattle.rules.specs.Keys.{key, fields_fit}
use Rattle.rules.specs.Laws.{equal, Equal}
use Rattle.rules.specs.Entering.{Entered, entered, rights}
use Rattle.rules.specs.MappingLaws.{filed}
use Rattle.rules.specs.Copying.{copied, copy_mapping, placed_outside, in_time, copy_nests, copy_tests}
use Rattle.rules.specs.declared.types.Cause.TheVariants.{JournalFull}
use Rattle.std.specs.Prelude.{ℕ, ◌+◌, ◌<◌, Bool, true, false, ◌↔◌, ◌≡◌, length, get_or, Option, None, Some}
use mathlib.Core.List.{List}
use Rattle.std.specs.List.{flat_map}
use Rattle.rules.specs.Store.{Store, op_exists, sound}
use Rattle.rules.specs.Fragments.{steps, Premise}
use Rattle.rules.specs.declared.types.Sort.TheVariants.{Op as op}
use Rattle.rules.specs.Building.{first_failed}
use Rattle.rules.specs.Mapping.{empty_mapping}
use Rattle.rules.specs.Types.{renamed}
use Rattle.rules.specs.Hash.{hash}
use Rattle.rules.specs.Keys.{key, fields_fit}
use Rattle.rules.specs.Laws.{Equal, equal}
use Rattle.rules.specs.Marks.{MarkedStore, set_mark, go_back, copy, is_mark, max_remembered, marked_tests, marked, marks_hold}

-- the copy is accepted
abbrev pub Copies : Store → ℕ → Option ℕ → Type 0
Copies s n place = first_failed (copy_tests s n place) ≡ None

-- a copy keeps a sound store sound: `copy_sound`
unfoldable pub CopySound : Type 0
CopySound = (s : Store) → sound s ≡ true → (n : ℕ) (place : Option ℕ) → Copies s n place → sound (copied s n place) ≡ true

-- and fields below 2^32, accepted or not: `copy_fits`
unfoldable pub CopyFits : Type 0
CopyFits = (s : Store) (n : ℕ) (place : Option ℕ) → fields_fit s ≡ true → fields_fit (copied s n place) ≡ true

-- comparing original with copy, from an empty mapping, answers equal under every ignore rule and list of renamed types: `copy_equal`
unfoldable pub CopyEqual : Type 0
CopyEqual =
    (s : Store) → sound s ≡ true → (n : ℕ) (place : Option ℕ) → Copies s n place
    → (types : List ℕ) (ig : Ignore) → Equal (renamed types (copied s n place)) ig op n (length s.ops)

-- and leaves the mapping that the copier gives: `copy_filed`
unfoldable pub CopyFiled : Type 0
CopyFiled =
    (s : Store) → sound s ≡ true → (n : ℕ) (place : Option ℕ) → Copies s n place
    → (types : List ℕ) (ig : Ignore) → filed (renamed types (copied s n place)) ig op n (length s.ops) ≡ copy_mapping s n

-- these are the next numbers, one after the other
abbrev pub Consecutive : ℕ → List ℕ → Type 0
Consecutive next ns = (i : ℕ) → i < length ns → get_or ns i 0 ≡ next + i

-- what stands on the right of pairs has the numbers next behind the store's: operations, with the regions of each, blocks, and the values of both
pub record NumberedInOrder (s with : Store) (ps : List Entered) : Type 0 where
  pub ops : Consecutive (length s.ops) (flat_map op_owner (rights ps))
  pub regions : Consecutive (length s.regions) (flat_map (regions_of with) (flat_map op_owner (rights ps)))
  pub blocks : Consecutive (length s.blocks) (flat_map block_owner (rights ps))
  pub values : Consecutive (length s.values) (flat_map (values_of with) (rights ps))

-- new numbers are given in the order in which a comparison of original with copy enters pairs: `copy_order`
unfoldable pub CopyOrder : Type 0
CopyOrder =
    (s : Store) → sound s ≡ true → (n : ℕ) (place : Option ℕ) → Copies s n place → (types : List ℕ) (ig : Ignore)
    → NumberedInOrder s (copied s n place) (entered (renamed types (copied s n place)) ig op n (length s.ops) empty_mapping)

-- the two satisfy the premise of the laws: `copy_premise`
unfoldable pub CopyPremise : Type 0
CopyPremise =
    (s : Store) → sound s ≡ true → (n : ℕ) (place : Option ℕ) → Copies s n place → Premise (copied s n place) op n (length s.ops)

-- so their hashes and keys are the same, and the copy equals the original too: `copy_alike`
unfoldable pub CopyAlike : Type 0
CopyAlike =
    (s : Store) → sound s ≡ true → (n : ℕ) (place : Option ℕ) → Copies s n place → (types : List ℕ) (ig : Ignore)
    → Equal (renamed types (copied s n place)) ig op (length s.ops) n
    × (hash (renamed types (copied s n place)) ig op n ≡ hash (renamed types (copied s n place)) ig op (length s.ops))
    × (key (renamed types (copied s n place)) ig op n ≡ key (renamed types (copied s n place)) ig op (length s.ops))

-- past 8, 2, 18 and 19 a copy is accepted exactly when the store with it would be sound: `copy_accepted_exactly`
unfoldable pub CopyAcceptedExactly : Type 0
CopyAcceptedExactly =
    (s : Store) → sound s ≡ true → (n : ℕ) (place : Option ℕ) → (op_exists s n && parent_exists s place) ≡ true
    → placed_outside s n place ≡ true → in_time s n (steps s op n) no_numbers ≡ true
    → Copies s n place ↔ (sound (copied s n place) ≡ true)

-- 19 is given exactly where it must be: where it is the only cause, a copy with all inner names renamed would not be equal: `early_unequal`
unfoldable pub EarlyUnequal : Type 0
EarlyUnequal =
    (s : Store) → sound s ≡ true → (n : ℕ) (place : Option ℕ) → (op_exists s n && parent_exists s place) ≡ true
    → placed_outside s n place ≡ true → copy_nests s n place ≡ true → totals_hold (copied s n place) ≡ true
    → in_time s n (steps s op n) no_numbers ≡ false → (ig : Ignore) → equal (copied s n place) ig op n (length s.ops) ≡ false

-- order 11: a copy, accepted or refused, leaves the marks and what they remember as they are: its keys are no replacements: `copy_uncounted_lem`
unfoldable pub CopyUncounted : Type 0
CopyUncounted = (t : MarkedStore) (ok : Bool) (n : ℕ) (place : Option ℕ) → (marked t (copy ok n place)).marks ≡ t.marks

-- so it is never refused for want of room to remember: `copy_never_journal_full`
unfoldable pub CopyNeverJournalFull : Type 0
CopyNeverJournalFull = (t : MarkedStore) (ok : Bool) (n : ℕ) (place : Option ℕ) → first_failed (marked_tests t (copy ok n place)) ≡ Some JournalFull → ⊥

-- and going back takes it away: `copy_taken_back`
unfoldable pub CopyTakenBack : Type 0
CopyTakenBack =
    (t : MarkedStore) → marks_hold max_remembered t.marks ≡ true → (k : ℕ) → is_mark k ≡ true → (ok : Bool) (n : ℕ) (place : Option ℕ)
    → marked (marked (marked t (set_mark k)) (copy ok n place)) (go_back k) ≡ marked t (set_mark k)
