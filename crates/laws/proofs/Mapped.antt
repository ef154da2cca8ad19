-- Order 10 over the code. By the contract of a comparison the words that an equal one leaves are read as the mapping that the rules file; the
-- other comparisons of a law are equal by what they say, or under the premise by demand 3; and of the filed mapping the laws are proved.
-- Assumes nothing.
use Prim.Native.Nat.{ℕ}
use mathlib.Core.Bool.{true}
use mathlib.Core.List.{List}
use mathlib.Core.Logic.{◌⊎◌, inl, inr}
use mathlib.Core.Path.{◌≡◌, sym, ap, ◌∙◌}
use Rattle.rules.specs.Store.{Store}
use Rattle.rules.specs.Fragments.{Premise}
use Rattle.rules.specs.declared.types.Sort.{Sort}
use Rattle.rules.specs.declared.types.Ignore.{Ignore}
use Rattle.rules.specs.Types.{types_hold, renamed}
use Rattle.rules.specs.Answers.{Comparison}
use Rattle.rules.specs.Laws.{Equal, In, Laws}
use Rattle.rules.specs.MappingLaws.{filed, MappingLaws, MappingLawsApart, MappingLawsOfSound}
use Rattle.rules.specs.TypeLaws.{RenamedSound}
use Rattle.rules.proofs.RenamedTypes.Under.{renamed_sound, defines_renamed}
use Rattle.rules.proofs.Walking.Answered.{filed_answered}
use Rattle.rules.proofs.MappingLaws.{mapping_laws_of_sound}
use Rattle.layout.specs.Reading.{store_in}
use Rattle.layout.specs.MarkedReading.{sound_lent}
use Rattle.api.specs.Calls.{AfterCalls}
use Rattle.api.proofs.Answering.{after_calls}
use Rattle.equivalence.specs.MappingWords.{mapping_of}
use Rattle.laws.specs.Answers.{EqAnswer, Compares, SaysEqual}
use Rattle.laws.specs.Mapped.{Leaves, MappingsObey, MappingLawsOfCode}
use Rattle.laws.proofs.Obeyed as obeyed

module _ (b : List ℕ) (sd : sound_lent b ≡ true) (types : List ℕ) (th : types_hold types ≡ true) (ig : Ignore) (f : Sort) where
  -- the store as it is read
  abbrev read : Store
  read = renamed types (store_in b)

  here : (x : ℕ) → In (store_in b) f x → In read f x
  here = obeyed.here b sd types th ig f

  apart : (x y : ℕ) → Premise (store_in b) f x y → Premise read f x y
  apart = obeyed.apart b sd types th ig f

  laws : Laws read ig f
  laws = obeyed.laws b sd types th ig f

  mapping_laws : MappingLaws read ig f × MappingLawsApart read ig f
  unfolding MappingLawsOfSound RenamedSound
  mapping_laws = mapping_laws_of_sound read (renamed_sound types (store_in b) (obeyed.ruled b sd types th ig f)) ig f

  module _ (x y : ℕ) (ix : In (store_in b) f x) (iy : In (store_in b) f y) (q : EqAnswer) (words : List ℕ) (l : Leaves b types ig f x y q words) where
    pub said : SaysEqual q → Equal read ig f x y
    unfolding Leaves Compares
    said e = obeyed.said b sd types th ig f x y ix iy q (words, l) e

    -- by a law under its premise, or as it is said
    either : {P : Type 0} → (P → Equal read ig f x y) → P ⊎ SaysEqual q → Equal read ig f x y
    either law (inl p) = law p
    either law (inr e) = said e

    -- where the two are equal, the words are read as the filed mapping
    pub left : Equal read ig f x y → mapping_of words ≡ filed read ig f x y
    unfolding Leaves
    left e =
        sym (ap (λ (c : Comparison). c.mapping) (obeyed.told b sd types th ig f x y ix iy q words l))
        ∙ filed_answered (store_in b) (obeyed.ruled b sd types th ig f) types th ig f x y ix iy e

  mappings_obey : MappingsObey b types ig f
  mappings_obey =
      record {
        bijective = λ a d ia id q words l e t.
            let ad = said a d ia id q words l e in
            let law = mapping_laws.0.bijective a d (here a ia) (here d id) ad t in
            rw (left a d ia id q words l ad) (rw (defines_renamed types (store_in b) f a t, defines_renamed types (store_in b) f d t) at law);
        backwards = λ a d ia id q p there back l k e or.
            let ad = said a d ia id q there l e in
            let da = either d a id ia p back k (λ m. laws.symmetric a d (here a ia) (here d id) (apart a d m) ad) or in
            rw (left a d ia id q there l ad, left d a id ia p back k da) (mapping_laws.1.backwards a d (here a ia) (here d id) ad da);
        followed = λ a d g ia id ig' q p r first second whole l k j e u or.
            let ad = said a d ia id q first l e in
            let dg = said d g id ig' p second k u in
            let ag = either a g ia ig' r whole j (λ m. laws.transitive a d g (here a ia) (here d id) (here g ig') (apart a d m.0) (apart d g m.1) ad dg) or in
            rw (left a d ia id q first l ad, left d g id ig' p second k dg, left a g ia ig' r whole j ag)
            (mapping_laws.1.followed a d g (here a ia) (here d id) (here g ig') ad dg ag);
      }

pub mapping_laws_of_code : MappingLawsOfCode
unfolding MappingLawsOfCode AfterCalls
mapping_laws_of_code entry e calls buffer made types th ig f = mappings_obey buffer (after_calls entry e calls buffer made).1 types th ig f
