-- What is proved of comparison: it is equality of canonical forms, and what it answers; that the premise of its laws is needed; and attributes that
-- count whatever is ignored. The four laws are in `Laws`, agreement with the Rust in `Agreement`, computed cases in `Cases`.
use Rattle.rules.specs.declared.types.Cause.{Cause}
use Rattle.std.specs.Prelude.{ℕ, ◌+◌, ◌≤◌, true, false, ◌↔◌, ◌⊎◌, ◌≡◌, eqb, length, replicate}
use mathlib.Core.List.{List, [], ◌∷◌, ◌++◌, map}
use Rattle.std.specs.List.{list_all, list_any, filter}
use Rattle.rules.specs.Lists.{same_list}
use Rattle.rules.specs.Store.{Store, empty_store, sound, keys_rise}
use Rattle.rules.specs.declared.types.Attribute.{Attribute}
use Rattle.rules.specs.declared.types.Owner.{Owner}
use Rattle.rules.specs.Fragments.{NamesNothingOf, defines_owners}
use Rattle.rules.specs.declared.types.Sort.{Sort}
use Rattle.rules.specs.declared.types.Sort.TheVariants.{Op as op}
use Rattle.rules.specs.Building.{Call, attributes_of, after}
use Rattle.rules.specs.Shells.{unignored, same_attribute}
use Rattle.rules.specs.declared.types.Ignore.{Ignore}
use Rattle.rules.specs.Mapping.{Mapping, empty_mapping, allowed}
use Rattle.rules.specs.Types.{types_hold, renamed}
use Rattle.rules.specs.Comparison.{State, standing, compare, compare_by}
use Rattle.rules.specs.Hash.{hash}
use Rattle.rules.specs.Answers.{eq, refused, comparison_of, comparison}
use Rattle.rules.specs.Laws.{In, Equal, equal}
use Rattle.rules.specs.Form.{canonical}
use Rattle.rules.specs.Cases.{ignoring, operation, first_operand}

-- `canonical_equal`
unfoldable pub CanonicalEqual : Type 0
CanonicalEqual =
    (s : Store) → sound s ≡ true → (ig : Ignore) (f : Sort) (a b : ℕ) → In s f a → In s f b
    → canonical s ig f a ≡ canonical s ig f b → Equal s ig f a b

-- the other way, if they are the same fragment or the left names nothing that the right defines: `equal_canonical`
unfoldable pub EqualCanonical : Type 0
EqualCanonical =
    (s : Store) → sound s ≡ true → (ig : Ignore) (f : Sort) (a b : ℕ) → In s f a → In s f b
    → (a ≡ b) ⊎ NamesNothingOf s f a b → Equal s ig f a b → canonical s ig f a ≡ canonical s ig f b

-- an operation with a result, then so many of one kind, each with that result as operand and a result of its own
unfoldable pub alike : ℕ → List Call
alike n = operation 1 (3 ∷ []) [] ∷ replicate n (operation 2 (3 ∷ []) (0 ∷ []))

-- two of them, and the operand of both is then the second one's result
unfoldable pub tangled : List Call
tangled = alike 2 ++ (first_operand 1 2 ∷ first_operand 2 2 ∷ [])

-- without it symmetry and equal hashes fail: `premise_needed`
unfoldable pub PremiseNeeded : Type 0
PremiseNeeded =
    (sound (after empty_store tangled) ≡ true)
    × (equal (after empty_store tangled) (ignoring false 0) op 1 2 ≡ true)
    × (equal (after empty_store tangled) (ignoring false 0) op 2 1 ≡ false)
    × (eqb (hash (after empty_store tangled) (ignoring false 0) op 1) (hash (after empty_store tangled) (ignoring false 0) op 2) ≡ false)

-- and a third one whose operand is its own result
unfoldable pub tangled_three : List Call
tangled_three = alike 3 ++ (first_operand 1 2 ∷ first_operand 2 2 ∷ first_operand 3 3 ∷ [])

-- and transitivity fails: `premise_needed_thrice`
unfoldable pub PremiseNeededThrice : Type 0
PremiseNeededThrice =
    (sound (after empty_store tangled_three) ≡ true)
    × (equal (after empty_store tangled_three) (ignoring false 0) op 1 2 ≡ true)
    × (equal (after empty_store tangled_three) (ignoring false 0) op 2 3 ≡ true)
    × (equal (after empty_store tangled_three) (ignoring false 0) op 1 3 ≡ false)

-- a comparison of fragments that exist, from an allowed mapping, answers as the walk does, and is never refused: `comparison_is`,
-- `never_refused`
unfoldable pub ComparisonIs : Type 0
ComparisonIs =
    (s : Store) → sound s ≡ true → (types : List ℕ) → types_hold types ≡ true
    → (ig : Ignore) (f : Sort) (m : Mapping) → allowed s m ≡ true → (l r : ℕ) → In s f l → In s f r
    → comparison true s types m ig f l r ≡ comparison_of (compare (renamed types s) ig f l r m) m

unfoldable pub NeverRefused : Type 0
NeverRefused =
    (s : Store) → sound s ≡ true → (types : List ℕ) → types_hold types ≡ true
    → (ig : Ignore) (f : Sort) (m : Mapping) → allowed s m ≡ true → (l r : ℕ) → In s f l → In s f r
    → (cause : Cause) → (comparison true s types m ig f l r).answer ≡ refused cause → ⊥

-- equality is the answer eq: `equal_answered`
unfoldable pub EqualAnswered : Type 0
EqualAnswered =
    (s : Store) → sound s ≡ true → (types : List ℕ) → types_hold types ≡ true → (ig : Ignore) (f : Sort) (a b : ℕ) → In s f a → In s f b
    → (equal (renamed types s) ig f a b ≡ true) ↔ ((n : ℕ) × ((comparison true s types empty_mapping ig f a b).answer ≡ eq n))

-- a comparison enters at most 768 operations and blocks: `paired_most`
unfoldable pub PairedMost : Type 0
PairedMost =
    (s : Store) → sound s ≡ true → (ig : Ignore) (f : Sort) (l r : ℕ) → In s f l → (st : State)
    → (standing (compare_by s ig f l r st)).paired ≤ st.paired + 768

-- those of an operation or a block, by rising key
unfoldable pub inherent_of : Store → Owner → List Attribute
inherent_of s w = filter (λ (a : Attribute). a.inherent) (attributes_of s w)

-- order 9: two equal fragments have the same inherent attributes, key by key, at each place of the walk, whatever is ignored: no ignore rule
-- merges two that differ in one: `inherent_kept`
unfoldable pub InherentKept : Type 0
InherentKept =
    (s : Store) → sound s ≡ true → (ig : Ignore) (f : Sort) (a b : ℕ) → In s f a → Equal s ig f a b
    → map (inherent_of s) (defines_owners s f a) ≡ map (inherent_of s) (defines_owners s f b)

-- 01's reading, and the Rust's: as many, and each of the one stands in the other
unfoldable pub SameByKey : List Attribute → List Attribute → Type 0
SameByKey xs ys = (length xs ≡ length ys) × (list_all (λ (a : Attribute). list_any (same_attribute a) ys) xs ≡ true)

-- the unignored attributes by rising key are equal as lists exactly then: `unignored_same`
unfoldable pub UnignoredSame : Type 0
UnignoredSame =
    (ig : Ignore) (xs ys : List Attribute) → keys_rise xs ≡ true → keys_rise ys ≡ true
    → (same_list same_attribute (unignored ig xs) (unignored ig ys) ≡ true) ↔ SameByKey (unignored ig xs) (unignored ig ys)
