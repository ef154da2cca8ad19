-- Order 12: what is proved of extents. `proofs/Extents` has a proof of each, of the name that stands beside it.
use Rattle.std.specs.Prelude.{ℕ, zero, suc, ◌+◌, ◌≤◌, true, ◌↔◌, ◌⊎◌, ◌≡◌, length}
use mathlib.Core.List.{List, [], Memᴰ}
use Rattle.rules.specs.Store.{Store, sound, max_ops, max_blocks, max_values, max_nesting}
use Rattle.rules.specs.Fragments.{ops_inside, outermost, fragment_ops}
use Rattle.rules.specs.declared.types.Sort.{Sort}
use Rattle.rules.specs.declared.types.Ignore.{Ignore}
use Rattle.rules.specs.Mapping.{Mapping, allowed}
use Rattle.rules.specs.Types.{types_hold, renamed}
use Rattle.rules.specs.Answers.{eq, comparison}
use Rattle.rules.specs.Keys.{key, keyed, key_length, longest_key}
use Rattle.rules.specs.Laws.{In}
use Rattle.rules.specs.Extents.{deepest_nesting, extent, extent_is, sized}

-- "The length is exactly what the key writer then fills": lent as many bytes, under whatever list of types, it fills them: `extent_fills`
unfoldable pub ExtentFills : Type 0
ExtentFills =
    (s : Store) → sound s ≡ true → (types : List ℕ) → types_hold types ≡ true → (ig : Ignore) (f : Sort) (n : ℕ) → In s f n
    → (bytes : List ℕ) → length bytes ≡ (extent s ig f n).bytes
    → keyed true s types ig f n bytes ≡ record { answer = key_length (length bytes); bytes = key (renamed types s) ig f n }

-- no type is read: the extent under every list of types is the same: `extent_renamed`
unfoldable pub ExtentRenamed : Type 0
ExtentRenamed = (s : Store) (types : List ℕ) (ig : Ignore) (f : Sort) (n : ℕ) → extent (renamed types s) ig f n ≡ extent s ig f n

-- "An equal comparison of that fragment from an empty mapping reports as `paired` the operations plus the blocks given here": on either
-- side, and from every mapping: `extent_paired`
unfoldable pub ExtentPaired : Type 0
ExtentPaired =
    (s : Store) → sound s ≡ true → (types : List ℕ) → types_hold types ≡ true → (ig other : Ignore) (f : Sort)
    → (m : Mapping) → allowed s m ≡ true → (a b paired : ℕ) → In s f a → In s f b
    → (comparison true s types m ig f a b).answer ≡ eq paired
    → (paired ≡ (extent s other f a).ops + (extent s other f a).blocks) × (paired ≡ (extent s other f b).ops + (extent s other f b).blocks)

-- operation m is inside the fragment, with k regions between the two, the fragment itself not counted
unfoldable pub Between : ℕ → Store → Sort → ℕ → ℕ → Type 0
Between zero s f a m = Memᴰ m (outermost s f a)
Between (suc k) s f a m = (n : ℕ) × (Between k s f a n × Memᴰ m (ops_inside s n))

-- the nesting is passed by no operation inside, and attained by one, or there is none and it is 0; and every operation inside has so many
-- regions in between, the same in whatever way they are counted: `extent_nesting`
pub record DeepestNesting (s : Store) (f : Sort) (a : ℕ) : Type 0 where
  pub passed_by_none : (k m : ℕ) → Between k s f a m → k ≤ deepest_nesting s f a
  pub attained : ((m : ℕ) × Between (deepest_nesting s f a) s f a m) ⊎ ((fragment_ops s f a ≡ []) × (deepest_nesting s f a ≡ 0))
  pub inside : (m : ℕ) → Memᴰ m (fragment_ops s f a) ↔ ((k : ℕ) × Between k s f a m)
  pub counted_once : (j k m : ℕ) → Between j s f a m → Between k s f a m → j ≡ k

unfoldable pub ExtentNesting : Type 0
ExtentNesting = (s : Store) → sound s ≡ true → (f : Sort) (a : ℕ) → In s f a → DeepestNesting s f a

-- the most of each, in a sound store: `extent_most`
unfoldable pub ExtentMost : Type 0
ExtentMost =
    (s : Store) → sound s ≡ true → (ig : Ignore) (f : Sort) (n : ℕ) → In s f n
    → ((extent s ig f n).bytes ≤ longest_key)
    × ((extent s ig f n).values ≤ max_values)
    × ((extent s ig f n).blocks ≤ max_blocks)
    × ((extent s ig f n).ops ≤ max_ops)
    × ((extent s ig f n).nesting ≤ max_nesting)

-- the extent of a fragment that exists is given: `sized_is`
unfoldable pub SizedIs : Type 0
SizedIs = (s : Store) → sound s ≡ true → (ig : Ignore) (f : Sort) (n : ℕ) → In s f n → sized true s ig f n ≡ extent_is (extent s ig f n)
