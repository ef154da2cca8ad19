-- What is proved of lists of renamed types: the laws hold under each.
use Rattle.rules.specs.KeyLaws.{FiledAsEqual}
use Rattle.std.specs.Prelude.{ℕ, true, ◌↔◌, ◌≡◌}
use mathlib.Core.List.{List, []}
use Rattle.std.specs.List.{list_all}
use Rattle.rules.specs.Store.{Store, empty_store, sound}
use Rattle.rules.specs.Fragments.{Premise}
use Rattle.rules.specs.declared.types.Sort.{Sort}
use Rattle.rules.specs.Building.{Call, after}
use Rattle.rules.specs.declared.types.Ignore.{Ignore}
use Rattle.rules.specs.Types.{types_hold, present, renamed}
use Rattle.rules.specs.Keys.{fits, call_fits}
use Rattle.rules.specs.Laws.{In, Laws}

-- a sound store stays sound: `renamed_sound`
unfoldable pub RenamedSound : Type 0
RenamedSound = (types : List ℕ) (s : Store) → sound s ≡ true → sound (renamed types s) ≡ true

-- and what exists in it, and which fragments satisfy the premise of the laws, is the same: `renamed_in`, `renamed_premise`
unfoldable pub RenamedIn : Type 0
RenamedIn = (types : List ℕ) (s : Store) (f : Sort) (a : ℕ) → In (renamed types s) f a ↔ In s f a

unfoldable pub RenamedPremise : Type 0
RenamedPremise = (types : List ℕ) (s : Store) (f : Sort) (a b : ℕ) → Premise (renamed types s) f a b ↔ Premise s f a b

-- an empty list changes nothing: `renamed_none`
unfoldable pub RenamedNone : Type 0
RenamedNone = (s : Store) → renamed [] s ≡ s

-- a type is looked up once: where the list holds, its present type has no row: `present_once`
unfoldable pub PresentOnce : Type 0
PresentOnce = (types : List ℕ) → types_hold types ≡ true → (t : ℕ) → present types (present types t) ≡ present types t

-- order 3: "Fragments compared, hashed and keyed under one such list obey the same four laws", after every list of calls: `laws_renamed`
unfoldable pub LawsRenamed : Type 0
LawsRenamed = (calls : List Call) (types : List ℕ) (ig : Ignore) (f : Sort) → Laws (renamed types (after empty_store calls)) ig f

-- "and order 2's law on keys", where the types in the list are below 2^32: `filers_law_renamed`
unfoldable pub FilersLawRenamed : Type 0
FilersLawRenamed =
    (calls : List Call) → list_all call_fits calls ≡ true → (types : List ℕ) → list_all fits types ≡ true
    → (ig : Ignore) (f : Sort) → FiledAsEqual (renamed types (after empty_store calls)) ig f
