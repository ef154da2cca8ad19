-- Equal fragments do the same work: they are isomorphic, and isomorphic fragments do. Assumes nothing.
use Prim.Native.Nat.{ℕ}
use mathlib.Core.Bool.{true}
use mathlib.Core.List.{List}
use mathlib.Core.Logic.{⊎_elim}
use Rattle.std.specs.Prelude.{Some}
use mathlib.Core.Path.{◌≡◌, sym, ap, ◌∙◌}
use Rattle.rules.specs.Store.{Store, sound}
use Rattle.rules.specs.Fragments.{NamesNothingOf, Premise}
use Rattle.rules.specs.declared.types.Sort.{Sort}
use Rattle.rules.specs.declared.types.Ignore.{Ignore}
use Rattle.rules.specs.Mapping.{empty_mapping}
use Rattle.rules.specs.Comparison.{start, compare}
use Rattle.rules.specs.Hash.{no_numbers}
use Rattle.rules.specs.Laws.{equal, Equal, In}
use Rattle.rules.specs.Form.{events}
use Rattle.rules.proofs.Form.Events.{bare_events, lock}
use Rattle.rules.proofs.Form.LockStep.{going}
use Rattle.rules.proofs.Form.Canonical.{goes, pass}
use Rattle.rules.specs.Types.{renamed}
use Rattle.rules.specs.TypeLaws.{RenamedSound, RenamedIn, RenamedPremise}
use Rattle.rules.specs.MappingLaws.{filed}
use Rattle.rules.proofs.RenamedTypes.Under.{renamed_sound, renamed_in, renamed_premise}
use Rattle.semantics.specs.Isomorphic.{Isomorphic}
use Rattle.semantics.specs.SameWork.{SameWork, SameWorkFresh, SameWorkAcross, IsomorphicWorkAcross, EqualIsomorphic, EqualExactly, all_numbered, none_early}
use Rattle.semantics.proofs.IsomorphicWork.{isomorphic_work_across, across→alike, alike→fresh}
use Rattle.semantics.proofs.Found.{equal_isomorphic, begins_course, values_in_events, blocks_in_events}
use Rattle.semantics.proofs.Timely.{timely, in_time_numbered}
use Rattle.semantics.proofs.Along.{isomorphic_equal}

isomorphic_under : (s : Store) → sound s ≡ true → (types : List ℕ) (ig : Ignore) (f : Sort) (a b : ℕ) → In s f a → In s f b → Premise s f a b
    → Equal (renamed types s) ig f a b → Isomorphic (renamed types s) ig (filed (renamed types s) ig f a b) f a b
unfolding EqualIsomorphic RenamedSound RenamedIn RenamedPremise
isomorphic_under s sd types ig f a b ia ib p e =
    equal_isomorphic (renamed types s) (renamed_sound types s sd) ig f a b
    ((renamed_in types s f a).1 ia) ((renamed_in types s f b).1 ib) ((renamed_premise types s f a b).1 p) e

module _ (Data World Mind : Type 0) where
  pub same_work_across : SameWorkAcross Data World Mind
  unfolding SameWorkAcross IsomorphicWorkAcross RenamedSound RenamedIn RenamedPremise
  same_work_across s sd types ig f a b ia ib p e =
      isomorphic_work_across Data World Mind (renamed types s) (renamed_sound types s sd) ig f a b
      ((renamed_in types s f a).1 ia) ((renamed_in types s f b).1 ib) ((renamed_premise types s f a b).1 p)
      (filed (renamed types s) ig f a b) (isomorphic_under s sd types ig f a b ia ib p e)

  pub same_work : SameWork Data World Mind
  unfolding SameWork SameWorkAcross
  same_work s sd types ig f a b ia ib p e =
      across→alike Data World Mind (renamed types s) ig f a b (filed (renamed types s) ig f a b) (same_work_across s sd types ig f a b ia ib p e)

  pub same_work_fresh : SameWorkFresh Data World Mind
  unfolding SameWorkFresh SameWork
  same_work_fresh s sd types ig f a b ia ib p e =
      alike→fresh Data World Mind (renamed types s) ig f a b (filed (renamed types s) ig f a b)
      (isomorphic_under s sd types ig f a b ia ib p e) (same_work s sd types ig f a b ia ib p e)

equal_timely : (s : Store) (sd : sound s ≡ true) (ig : Ignore) (f : Sort) (a b : ℕ) → In s f a → In s f b → NamesNothingOf s f b a → Equal s ig f a b
    → none_early s f a ≡ true
unfolding none_early equal no_numbers
equal_timely s sd ig f a b ia ib out e =
    let w = goes (compare s ig f a b empty_mapping) e in
    let q : lock s ig (events s f a) (events s f b) (start empty_mapping) ≡ Some w.0 = sym (pass s ig f empty_mapping a b) ∙ ap going w.1 in
    sym (ap (λ (xs : _). all_numbered s f a xs no_numbers) (bare_events s f a))
    ∙ in_time_numbered s f a (events s f a) no_numbers
    (record { values = values_in_events s f a; blocks = blocks_in_events s f a })
    (timely s ig (filed s ig f a b) (events s f a) (events s f b) (start empty_mapping) w.0 q (begins_course s sd ig f a b ia ib e out))

pub equal_exactly : EqualExactly
unfolding EqualExactly EqualIsomorphic Premise
equal_exactly s sd ig f a b ia ib ne p = (
  λ e. ((filed s ig f a b, equal_isomorphic s sd ig f a b ia ib p e), ⊎_elim (λ q. absurd (ne q)) (λ r. equal_timely s sd ig f a b ia ib r.2 e) p),
  λ h. ⊎_elim (λ q. absurd (ne q)) (λ r. isomorphic_equal s sd ig f a b ia ib r.1 h.0.0 h.0.1 h.1) p,
)
