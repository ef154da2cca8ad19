-- What is proved of independence and of the twins among a store's operations. All hold under every list of renamed types and after every
-- list of calls, since those stores are sound too (`RenamedSound`, `AfterMarkedSound`). They are of one store that doesn't change: what
-- stands for an operation may lie inside another that has a twin itself (`GroupingCases`, `inside_another`), so that not every merge of a
-- store's twins leaves the others as they are.
use Rattle.std.specs.Prelude.{ℕ, ◌<◌, true, false, ◌↔◌, ◌≡◌, Option, None, Some}
use Rattle.rules.specs.Store.{Store, empty_store, sound}
use Rattle.rules.specs.Fragments.{Premise}
use Rattle.rules.specs.declared.types.Sort.{Sort}
use Rattle.rules.specs.declared.types.Sort.TheVariants.{Op as op}
use Rattle.rules.specs.Building.{after}
use Rattle.rules.specs.declared.types.Ignore.{Ignore}
use Rattle.rules.specs.Hash.{hash}
use Rattle.rules.specs.Keys.{key}
use Rattle.rules.specs.Laws.{In, equal, Equal}
use Rattle.rules.specs.Independence.{independent}
use Rattle.rules.specs.Grouping.{twin_of}
use Rattle.rules.specs.EqualityLaws.{tangled}
use Rattle.rules.specs.Cases.{ignoring}

-- ---- independence

-- the test holds exactly where the premise of the laws does: `independent_is`
unfoldable pub IndependentIs : Type 0
IndependentIs = (s : Store) (f : Sort) (a b : ℕ) → (independent s f a b ≡ true) ↔ Premise s f a b

-- the premise goes along with equality: of three fragments of which the first two and the last two are independent and equal, the first and
-- the last are independent (and equal, by the laws): `independent_along`
unfoldable pub IndependentAlong : Type 0
IndependentAlong =
    (s : Store) → sound s ≡ true → (ig : Ignore) (f : Sort) (a b c : ℕ) → In s f a → In s f b → In s f c
    → Premise s f a b → Premise s f b c → Equal s ig f a b → Equal s ig f b c → Premise s f a c

-- ---- twins

-- two operations under the premise of the laws that are equal, the first on the left
abbrev pub Twins : Store → Ignore → ℕ → ℕ → Type 0
Twins s ig m n = Premise s op m n × Equal s ig op m n

-- an operation's twin comes before it, is independent of it and equal to it, and is the first such: `twin_found`
unfoldable pub TwinFound : Type 0
TwinFound =
    (s : Store) (ig : Ignore) (n m : ℕ) → twin_of s ig n ≡ Some m
    → (m < n) × Twins s ig m n × ((k : ℕ) → k < m → Twins s ig k n → ⊥)

-- none is given exactly where no operation before it is independent of it and equal to it: `twin_none`
unfoldable pub TwinNone : Type 0
TwinNone = (s : Store) (ig : Ignore) (n : ℕ) → (twin_of s ig n ≡ None) ↔ ((m : ℕ) → m < n → Twins s ig m n → ⊥)

-- the two are equal the other way too, and have one hash and one key: candidates by their hashes miss none: `twin_alike`
unfoldable pub TwinAlike : Type 0
TwinAlike =
    (s : Store) → sound s ≡ true → (ig : Ignore) (n m : ℕ) → In s op n → twin_of s ig n ≡ Some m
    → Equal s ig op n m × (hash s ig op m ≡ hash s ig op n) × (key s ig op m ≡ key s ig op n)

-- an operation that stands for another has no twin itself: `twin_stays`
unfoldable pub TwinStays : Type 0
TwinStays = (s : Store) → sound s ≡ true → (ig : Ignore) (n m : ℕ) → In s op n → twin_of s ig n ≡ Some m → twin_of s ig m ≡ None

-- two operations for which the same one stands are twins of each other: so a store's operations fall into groups, each with its first
-- operation: `twins_together`
unfoldable pub TwinsTogether : Type 0
TwinsTogether =
    (s : Store) → sound s ≡ true → (ig : Ignore) (n k m : ℕ) → In s op n → In s op k
    → twin_of s ig n ≡ Some m → twin_of s ig k ≡ Some m → Twins s ig n k

-- the first of a group: the one that stands for n, or n itself
unfoldable pub first_or : ℕ → Option ℕ → Option ℕ
first_or n None = Some n
first_or n (Some m) = Some m

-- and twins of each other have the same first one: of two twins, the later has a twin, and the earlier has the same or is it: `twins_share`
unfoldable pub TwinsShare : Type 0
TwinsShare =
    (s : Store) → sound s ≡ true → (ig : Ignore) (n k : ℕ) → In s op n → In s op k → n < k → Twins s ig n k
    → twin_of s ig k ≡ first_or n (twin_of s ig n)

-- without the premise an operation that has no twin may be equal to an earlier one: in the smallest such store the last of three operations
-- is equal to the second with that one on the left, and not the other way round: `twinless_equal`
unfoldable pub TwinlessEqual : Type 0
TwinlessEqual =
    (equal (after empty_store tangled) (ignoring false 0) op 1 2 ≡ true)
    × (twin_of (after empty_store tangled) (ignoring false 0) 2 ≡ None)
