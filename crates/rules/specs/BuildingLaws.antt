-- What is proved of the building calls: they keep a store sound, are accepted exactly where the store stays so, and nest no deeper than a walk goes.
use Rattle.rules.specs.declared.types.Cause.TheVariants.{NotThere, UnknownKind, NoOperand}
use Rattle.rules.specs.declared.types.Cause.{Cause}
use Rattle.std.specs.Prelude.{ℕ, zero, suc, ◌+◌, ◌≤◌, Bool, true, ◌↔◌, ◌≡◌, length, None, Some}
use mathlib.Core.List.{List, [], ◌∷◌, map, Memᴰ}
use Rattle.rules.specs.Causes.{same_cause}
use Rattle.rules.specs.Lists.{every}
use Rattle.std.specs.List.{list_any, filter}
use Rattle.rules.specs.Store.{Store, empty_store, op_exists, owner_exists, parent_of, op_around, nesting_holds, max_nesting, sound, max_ops}
use Rattle.rules.specs.declared.types.Owner.{Owner}
use Rattle.rules.specs.Fragments.{shell, names, levels, region_steps, steps, fragment_ops}
use Rattle.rules.specs.declared.types.Sort.{Sort}
use Rattle.rules.specs.declared.types.Sort.TheVariants.{Op as op}
use Rattle.rules.specs.Building.{Call, tests, first_failed, applied, built, after}
use Rattle.rules.specs.declared.types.Ignore.{Ignore}
use Rattle.rules.specs.Comparison.{compare_regions}
use Rattle.rules.specs.Laws.{In}
use Rattle.rules.specs.Form.{region_events}

-- a call, accepted or refused, keeps a sound store sound, and so does a list of calls: `built_sound`, `after_sound`
unfoldable pub BuiltSound : Type 0
BuiltSound = (s : Store) (c : Call) → sound s ≡ true → sound (built s c) ≡ true

unfoldable pub AfterSound : Type 0
AfterSound = (calls : List Call) → sound (after empty_store calls) ≡ true

-- a cause that is no limit: an attribute kind above 63, a named thing that does not exist, an operand index past the end
unfoldable pub of_names : Bool × Cause → Bool
of_names t = list_any (same_cause t.1) (UnknownKind ∷ NotThere ∷ NoOperand ∷ [])

-- the call's tests of these causes pass
unfoldable pub names_hold : Store → Call → Bool
names_hold s c = every (map (λ (t : Bool × Cause). t.0) (filter of_names (tests s c)))

-- such a call is accepted exactly when the store with it done is sound: nothing is refused by a limit while there is room:
-- `accepted_exactly`
unfoldable pub AcceptedExactly : Type 0
AcceptedExactly =
    (s : Store) (c : Call) → sound s ≡ true → names_hold s c ≡ true → (first_failed (tests s c) ≡ None) ↔ (sound (applied s c) ≡ true)

-- at least k regions are around operation n, one in another: it stands in a block, and at least one fewer are around the operation that
-- this block is in
unfoldable pub Around : ℕ → Store → ℕ → Type 0
Around zero s n = Unit {0}
Around (suc k) s n = (b : ℕ) × ((parent_of s n ≡ Some b) × Around k s (op_around s b))

-- "at most 32": what the test of a sound store says of each operation, and what one finds who goes up from it: `nested_at_most`
unfoldable pub NestedAtMost : Type 0
NestedAtMost =
    (s : Store) → sound s ≡ true → (n : ℕ) → In s op n
    → (nesting_holds s (parent_of s n) ≡ true) × ((k : ℕ) → Around k s n → k ≤ max_nesting)

-- a walk goes only through the store: each of its steps is of an operation or a block that exists: `walk_stays`
unfoldable pub WalkStays : Type 0
WalkStays =
    (s : Store) → sound s ≡ true → (f : Sort) (n : ℕ) → In s f n
    → ((w : Owner) → Memᴰ (shell w) (steps s f n) → owner_exists s w ≡ true)
    × ((m : ℕ) → Memᴰ (names m) (steps s f n) → op_exists s m ≡ true)

-- so no walk comes to the end of its levels: with any more of them a region's steps and events are the same, and so is the comparison of
-- two. As functions they are, so in a whole fragment's `steps`, `events` and `compare_by` the larger number may stand too: `levels_enough`
unfoldable pub LevelsEnough : Type 0
LevelsEnough =
    (s : Store) → sound s ≡ true → (k : ℕ)
    → (region_steps (levels + k) s ≡ region_steps levels s)
    × (region_events s (levels + k) ≡ region_events s levels)
    × ((ig : Ignore) → compare_regions (levels + k) s ig ≡ compare_regions levels s ig)

-- a fragment has at most 512 operations inside it: `size_most`
unfoldable pub SizeMost : Type 0
SizeMost = (s : Store) → sound s ≡ true → (f : Sort) (n : ℕ) → In s f n → length (fragment_ops s f n) ≤ max_ops
