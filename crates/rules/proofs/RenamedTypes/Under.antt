-- The laws under a list of renamed types. A renamed store is sound, and so every law of sound stores is one of it. Assumes nothing.
use Prim.Native.Nat.{ℕ}
use mathlib.Core.Bool.{Bool, true, false, cond, not, ◌&&◌, ◌||◌}
use mathlib.Core.List.{List, [], ◌∷◌, map}
use mathlib.Core.Logic.{◌⊎◌, inl, inr}
use mathlib.Core.Path.{◌≡◌, refl, sym, ap, ap₂, transport, transport⁻¹, ◌∙◌}
use borrow.Author.Tests.{eqb-true, eq-eqb, not-true}
use lib.Dec.{eqb}
use Rattle.rules.specs.Lists.{every}
use Rattle.std.specs.List.{list_all, list_any, flat_map}
use Rattle.rules.specs.Store.{Store, Value, empty_store, op_at, same_owner}
use Rattle.rules.specs.declared.types.Owner.{Owner}
use Rattle.rules.specs.Fragments.{Step, shell, names, counted, step_defines, step_operands, step_successors, op_owner, block_owner, defines_owners, defines_values, defines_blocks, fragment_ops, names_values, names_blocks, Disjoint, NamesNothingOf, Premise}
use Rattle.rules.specs.declared.types.Sort.{Sort}
use Rattle.rules.specs.Building.{after}
use Rattle.rules.specs.Independence.{disjoint, names_nothing_of, independent}
use Rattle.rules.specs.Types.{old_types, present_types, stands_in, types_hold, present, renamed_value, renamed}
use Rattle.rules.specs.Keys.{fits, value_fits, fields_fit}
use Rattle.rules.specs.Laws.{LawsOfSound}
use Rattle.rules.specs.MappingLaws as tables
use Rattle.rules.specs.MappingLaws.{Table, defines_of}
use Rattle.rules.specs.TypeLaws.{RenamedSound, RenamedIn, RenamedPremise, RenamedNone, PresentOnce, LawsRenamed, FilersLawRenamed}
use Rattle.rules.specs.KeyLaws.{FilersLaw}
use Rattle.rules.proofs.Basics.Tests.{and_left, and_right, and_both, or_left, or_right, or_cases, or_false_right, decided, clash, passed, every_of}
use Rattle.rules.proofs.Soundness.Kept.{empty_sound, after_sound}
use Rattle.rules.proofs.RenamedTypes.Renamed as renaming
use Rattle.rules.proofs.RenamedTypes.Renamed.{values_renamed, exists_renamed, steps_renamed}
use Rattle.rules.proofs.Laws.{laws_of_sound}
use Rattle.rules.proofs.Keys.Filed.{filers_law}
use Rattle.rules.proofs.Keys.Kept.{after_fits, empty_fits}

pub renamed_sound : RenamedSound
unfolding RenamedSound
renamed_sound types s h = renaming.renamed_sound types s h

pub renamed_in : RenamedIn
unfolding RenamedIn
renamed_in types s f a = (λ h. sym (exists_renamed types s f a) ∙ h, λ h. exists_renamed types s f a ∙ h)

-- ---- what a fragment defines and names, and the premise

module _ (types : List ℕ) (s : Store) where
  abbrev other : Store
  other = renamed types s

  operands_same : (x : Step) → step_operands other x ≡ step_operands s x
  unfolding renamed step_operands op_at
  operands_same (shell w) = refl
  operands_same (names n) = refl
  operands_same (counted k) = refl

  successors_same : (x : Step) → step_successors other x ≡ step_successors s x
  unfolding renamed step_successors op_at
  successors_same (shell w) = refl
  successors_same (names n) = refl
  successors_same (counted k) = refl

  module _ (f : Sort) (n : ℕ) where
    pub owners : defines_owners other f n ≡ defines_owners s f n
    unfolding defines_owners
    owners = ap (flat_map step_defines) (steps_renamed types s f n)

    pub values : defines_values other f n ≡ defines_values s f n
    unfolding defines_values
    values = λ i. flat_map (λ (w : Owner). values_renamed types s w i) (owners i)

    pub blocks : defines_blocks other f n ≡ defines_blocks s f n
    unfolding defines_blocks
    blocks = ap (flat_map block_owner) owners

    pub ops : fragment_ops other f n ≡ fragment_ops s f n
    unfolding fragment_ops
    ops = ap (flat_map op_owner) owners

    pub defines_renamed : (t : Table) → defines_of other f n t ≡ defines_of s f n t
    unfolding defines_of
    defines_renamed tables.values = values
    defines_renamed tables.blocks = blocks
    defines_renamed tables.ops = ops

    named_values : names_values other f n ≡ names_values s f n
    unfolding names_values
    named_values = λ i. flat_map (λ (x : Step). operands_same x i) (steps_renamed types s f n i)

    named_blocks : names_blocks other f n ≡ names_blocks s f n
    unfolding names_blocks
    named_blocks = λ i. flat_map (λ (x : Step). successors_same x i) (steps_renamed types s f n i)

  -- the test of independence
  pub independent_renamed : (f : Sort) (a b : ℕ) → independent other f a b ≡ independent s f a b
  unfolding independent names_nothing_of
  independent_renamed f a b = λ i.
      eqb a b
      || every
      (disjoint same_owner (owners f a i) (owners f b i)
      ∷ (disjoint eqb (named_values f a i) (values f b i) && disjoint eqb (named_blocks f a i) (blocks f b i))
      ∷ (disjoint eqb (named_values f b i) (values f a i) && disjoint eqb (named_blocks f b i) (blocks f a i))
      ∷ [])

  premise_same : (f : Sort) (a b : ℕ) → Premise other f a b ≡ Premise s f a b
  unfolding Premise NamesNothingOf
  premise_same f a b = λ i.
      (a ≡ b)
      ⊎ (Disjoint (owners f a i) (owners f b i)
      × (Disjoint (named_values f a i) (values f b i) × Disjoint (named_blocks f a i) (blocks f b i))
      × (Disjoint (named_values f b i) (values f a i) × Disjoint (named_blocks f b i) (blocks f a i)))

pub renamed_premise : RenamedPremise
unfolding RenamedPremise
renamed_premise types s f a b = (λ p. transport (premise_same types s f a b) p, λ p. transport⁻¹ (premise_same types s f a b) p)

-- ---- the empty list

unnamed : (vs : List Value) → map (renamed_value []) vs ≡ vs
unfolding renamed_value present
unnamed [] = refl
unnamed (v ∷ vs) = ap₂ ◌∷◌ (λ i. v) (unnamed vs)

pub renamed_none : RenamedNone
unfolding RenamedNone renamed
renamed_none s = λ i. record { ops = s.ops; blocks = s.blocks; regions = s.regions; values = unnamed s.values i }

-- ---- the laws

pub laws_renamed : LawsRenamed
unfolding LawsRenamed LawsOfSound RenamedSound
laws_renamed calls types ig f =
    laws_of_sound (renamed types (after empty_store calls)) (renamed_sound types (after empty_store calls) (after_sound empty_store calls empty_sound)) ig f

-- a present type is the type itself, or one of the list's
present_fits : (types : List ℕ) → list_all fits types ≡ true → (t : ℕ) → fits t ≡ true → fits (present types t) ≡ true
unfolding present
present_fits [] h t ft = ft
present_fits (old ∷ []) h t ft = ft
present_fits (old ∷ now ∷ rows) h t ft =
    let k : list_all fits (now ∷ rows) ≡ true = and_right (fits old) _ h in
    go (eqb old t) (and_left (fits now) (list_all fits rows) k) (present_fits rows (and_right (fits now) _ k) t ft)
  where
    go : (b : Bool) → fits now ≡ true → fits (present rows t) ≡ true → fits (cond b now (present rows t)) ≡ true
    go true k l = k
    go false k l = l

values_fit_lem : (types : List ℕ) → list_all fits types ≡ true → (vs : List Value) → list_all value_fits vs ≡ true → list_all value_fits (map (renamed_value types) vs) ≡ true
unfolding value_fits renamed_value
values_fit_lem types h [] k = refl
values_fit_lem types h (v ∷ vs) k =
    and_both _ _ (present_fits types h v.type (and_left (value_fits v) (list_all value_fits vs) k)) (values_fit_lem types h vs (and_right (value_fits v) _ k))

pub renamed_fits : (types : List ℕ) → list_all fits types ≡ true → (s : Store) → fields_fit s ≡ true → fields_fit (renamed types s) ≡ true
unfolding fields_fit renamed
renamed_fits types h s k =
    let p = passed _ k in
    every_of _ (p.0, (p.1.0, (values_fit_lem types h s.values p.1.1.0, tt)))

pub filers_law_renamed : FilersLawRenamed
unfolding FilersLawRenamed FilersLaw RenamedSound
filers_law_renamed calls fit types h ig f =
    let s = after empty_store calls in
    filers_law (renamed types s) (renamed_sound types s (after_sound empty_store calls empty_sound)) (renamed_fits types h s (after_fits empty_store calls empty_fits fit)) ig f

-- ---- a type is looked up once

-- a type without a row is its own
no_row : (rows : List ℕ) (t : ℕ) → stands_in (old_types rows) t ≡ false → present rows t ≡ t
unfolding stands_in old_types present
no_row [] t h = refl
no_row (old ∷ []) t h = refl
no_row (old ∷ now ∷ rows) t h = go (decided (eqb old t)) (no_row rows t (or_false_right (eqb t old) _ h))
  where
    go : (eqb old t ≡ true) ⊎ (eqb old t ≡ false) → present rows t ≡ t → cond (eqb old t) now (present rows t) ≡ t
    go (inl e) k = clash (or_left (eqb t old) (list_any (eqb t) (old_types rows)) (eq-eqb t old (sym (eqb-true old t e)))) h
    go (inr e) k = rw e k

-- a type that is not its own stands among the present ones
own_or_present : (rows : List ℕ) (t : ℕ) → (present rows t ≡ t) ⊎ (stands_in (present_types rows) (present rows t) ≡ true)
unfolding stands_in present_types present
own_or_present [] t = inl refl
own_or_present (old ∷ []) t = inl refl
own_or_present (old ∷ now ∷ rows) t = go (eqb old t) (own_or_present rows t)
  where
    go : (b : Bool) → (present rows t ≡ t) ⊎ (stands_in (present_types rows) (present rows t) ≡ true)
        → (cond b now (present rows t) ≡ t) ⊎ (stands_in (now ∷ present_types rows) (cond b now (present rows t)) ≡ true)
    go true h = inr (or_left (eqb now now) _ (eq-eqb now now refl))
    go false (inl e) = inl e
    go false (inr e) = inr (or_right (eqb (present rows t) now) _ e)

all_standing : (p : ℕ → Bool) (ns : List ℕ) → list_all p ns ≡ true → (n : ℕ) → stands_in ns n ≡ true → p n ≡ true
unfolding stands_in
all_standing p [] h n k = clash k refl
all_standing p (m ∷ ns) h n k = go (or_cases (eqb n m) (list_any (eqb n) ns) k) (all_standing p ns (and_right (p m) _ h) n)
  where
    go : (eqb n m ≡ true) ⊎ (list_any (eqb n) ns ≡ true) → (stands_in ns n ≡ true → p n ≡ true) → p n ≡ true
    go (inl e) later = ap p (eqb-true n m e) ∙ and_left (p m) (list_all p ns) h
    go (inr e) later = later e

pub present_once : PresentOnce
unfolding PresentOnce types_hold
present_once rows h t = go (own_or_present rows t)
  where
    go : (present rows t ≡ t) ⊎ (stands_in (present_types rows) (present rows t) ≡ true) → present rows (present rows t) ≡ present rows t
    go (inl e) = ap (present rows) e
    go (inr e) = no_row rows (present rows t) (not-true _ (all_standing (λ (u : ℕ). not (stands_in (old_types rows) u)) (present_types rows) (passed _ h).1.1.1.0 (present rows t) e))
