-- What is proved of keys: they tell fragments apart exactly as comparison does, their order is total, and how long they are.
use Rattle.std.specs.Prelude.{ℕ, ◌≤◌, true, ◌↔◌, ◌⊎◌, ◌≡◌, pos, length}
use mathlib.Core.List.{List}
use Rattle.std.specs.List.{list_all}
use Rattle.rules.specs.Store.{Store, empty_store, sound}
use Rattle.rules.specs.Fragments.{NamesNothingOf, Premise}
use Rattle.rules.specs.declared.types.Sort.{Sort}
use Rattle.rules.specs.Building.{Call, built, after}
use Rattle.rules.specs.declared.types.Ignore.{Ignore}
use Rattle.rules.specs.Types.{types_hold, renamed}
use Rattle.rules.specs.Keys.{key, keyed, key_length, written, longest_key, same, less, compare_bytes, ordering_number, reversed, fields_fit, call_fits}
use Rattle.rules.specs.Laws.{In, Equal}

-- fragments with the same key are equal, whatever they name, where fields are below 2^32: `key_equal`
unfoldable pub KeyEqual : Type 0
KeyEqual =
    (s : Store) → sound s ≡ true → fields_fit s ≡ true → (ig : Ignore) (f : Sort) (a b : ℕ) → In s f a → In s f b
    → key s ig f a ≡ key s ig f b → Equal s ig f a b

-- the other way, if they are the same fragment or the left names nothing that the right defines: `equal_key`
unfoldable pub EqualKey : Type 0
EqualKey =
    (s : Store) → sound s ≡ true → (ig : Ignore) (f : Sort) (a b : ℕ) → In s f a → In s f b
    → (a ≡ b) ⊎ NamesNothingOf s f a b → Equal s ig f a b → key s ig f a ≡ key s ig f b

-- order 2: "with an empty mapping and under the premise of the laws, 0 comes for two operations, two blocks or two regions exactly when
-- they are equal under that ignore rule"
unfoldable pub FiledAsEqual : Store → Ignore → Sort → Type 0
FiledAsEqual s ig f =
    (a b : ℕ) → In s f a → In s f b → Premise s f a b
    → (ordering_number (compare_bytes (key s ig f a) (key s ig f b)) ≡ pos 0) ↔ Equal s ig f a b

-- in every sound store: `filers_law`
unfoldable pub FilersLaw : Type 0
FilersLaw = (s : Store) → sound s ≡ true → fields_fit s ≡ true → (ig : Ignore) (f : Sort) → FiledAsEqual s ig f

-- and after every list of building calls whose arguments are below 2^32: `filers_law_after`
unfoldable pub FilersLawAfter : Type 0
FilersLawAfter = (calls : List Call) → list_all call_fits calls ≡ true → (ig : Ignore) (f : Sort) → FiledAsEqual (after empty_store calls) ig f

-- such calls, accepted or refused, keep fields below 2^32: `fields_fit_kept`
unfoldable pub FieldsFitKept : Type 0
FieldsFitKept = (s : Store) (c : Call) → fields_fit s ≡ true → call_fits c ≡ true → fields_fit (built s c) ≡ true

-- "The order is total on keys", and on bytes of any length: any two compare, one way as the other reversed; as 0 only if they are the
-- same, and as -1 whenever one between them does with both: `key_order`
pub record TotalOrder : Type 0 where
  pub reflexive : (xs : List ℕ) → compare_bytes xs xs ≡ same
  pub antisymmetric : (xs ys : List ℕ) → compare_bytes xs ys ≡ same → xs ≡ ys
  pub total : (xs ys : List ℕ) → compare_bytes ys xs ≡ reversed (compare_bytes xs ys)
  pub transitive : (xs ys zs : List ℕ) → compare_bytes xs ys ≡ less → compare_bytes ys zs ≡ less → compare_bytes xs zs ≡ less

-- the key of a fragment that exists is written wherever it fits: `keyed_is`
unfoldable pub KeyedIs : Type 0
KeyedIs =
    (s : Store) → sound s ≡ true → (types : List ℕ) → types_hold types ≡ true → (ig : Ignore) (f : Sort) (n : ℕ) (bytes : List ℕ)
    → In s f n → length (key (renamed types s) ig f n) ≤ length bytes
    → keyed true s types ig f n bytes
    ≡ record { answer = key_length (length (key (renamed types s) ig f n)); bytes = written (key (renamed types s) ig f n) bytes }

-- a key has at most so many bytes: `key_longest`
unfoldable pub KeyLongest : Type 0
KeyLongest = (s : Store) → sound s ≡ true → (ig : Ignore) (f : Sort) (n : ℕ) → In s f n → length (key s ig f n) ≤ longest_key
