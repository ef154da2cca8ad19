-- Demand 3: "for every ignore rule and all fragments of one sort, equality is reflexive, symmetric and transitive, and equal
-- fragments have equal hashes, under 01's premise", after every list of building calls from the empty store.
use Rattle.std.specs.Prelude.{ℕ, Bool, true, false, List, ◌≡◌}
use Rattle.rules.specs.Store.{Store, empty_store, sound}
use Rattle.rules.specs.Fragments.{exists, Premise}
use Rattle.rules.specs.declared.types.Sort.{Sort}
use Rattle.rules.specs.Building.{Call, after}
use Rattle.rules.specs.declared.types.Ignore.{Ignore}
use Rattle.rules.specs.Mapping.{empty_mapping}
use Rattle.rules.specs.Comparison.{Walk, on, ended, compare}
use Rattle.rules.specs.Hash.{hash}

unfoldable pub succeeds : Walk → Bool
succeeds (on st) = true
succeeds (ended why st) = false

-- "Two fragments are equal when their comparison ends without a failure": here begun with an empty mapping
unfoldable pub equal : Store → Ignore → Sort → ℕ → ℕ → Bool
equal s ig f a b = succeeds (compare s ig f a b empty_mapping)

abbrev pub Equal : Store → Ignore → Sort → ℕ → ℕ → Type 0
Equal s ig f a b = equal s ig f a b ≡ true

-- a is the number of a fragment of this sort in the store
abbrev pub In : Store → Sort → ℕ → Type 0
In s f a = exists s f a ≡ true

-- the four laws, of one store, ignore rule and sort of fragment
pub record Laws (s : Store) (ig : Ignore) (f : Sort) : Type 0 where
  pub reflexive : (a : ℕ) → In s f a → Equal s ig f a a
  pub symmetric : (a b : ℕ) → In s f a → In s f b → Premise s f a b → Equal s ig f a b → Equal s ig f b a
  pub transitive :
      (a b c : ℕ) → In s f a → In s f b → In s f c → Premise s f a b → Premise s f b c
      → Equal s ig f a b → Equal s ig f b c → Equal s ig f a c
  pub hashes : (a b : ℕ) → In s f a → In s f b → Premise s f a b → Equal s ig f a b → hash s ig f a ≡ hash s ig f b

-- of every sound store
unfoldable pub LawsOfSound : Type 0
LawsOfSound = (s : Store) → sound s ≡ true → (ig : Ignore) (f : Sort) → Laws s ig f

-- demand 3, over every list of calls, whatever their arguments, refused ones among them
unfoldable pub Demand3 : Type 0
Demand3 = (calls : List Call) (ig : Ignore) (f : Sort) → Laws (after empty_store calls) ig f
