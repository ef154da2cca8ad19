-- The test of independence passes exactly where the premise of the laws holds: it is the premise, each of its parts by a test that goes
-- through two lists and tells whether two entries are the same. Assumes nothing.
use Prim.Native.Nat.{ℕ}
use mathlib.Core.Bool.{Bool, true, not}
use mathlib.Core.List.Memᴰ
use mathlib.Core.List.{List}
use mathlib.Core.Logic.{◌↔◌, inl, inr, ⊎_elim}
use mathlib.Core.Path.{◌≡◌, refl, ap}
use borrow.Author.Tests.{eqb-true, eq-eqb, not-true}
use lib.Dec.{eqb}
use Rattle.std.specs.List.{list_any}
use Rattle.rules.specs.Store.{Store, same_owner}
use Rattle.rules.specs.declared.types.Owner.{Owner}
use Rattle.rules.specs.Fragments.{defines_owners, defines_values, defines_blocks, names_values, names_blocks, Disjoint, NamesNothingOf, Premise}
use Rattle.rules.specs.declared.types.Sort.{Sort}
use Rattle.rules.specs.Independence.{disjoint, names_nothing_of, independent}
use Rattle.rules.specs.GroupingLaws.{IndependentIs}
use Rattle.rules.proofs.Basics.Tests.{and_left, and_right, and_both, or_cases, or_left, or_right, all_at, all_of, decided, passed, every_of, clash}
use Rattle.rules.proofs.Basics.Filtered.{any_at, any_where}
use Rattle.rules.proofs.Soundness.Children.{same_owner_lem}
use Rattle.rules.proofs.Soundness.NewValues.{same_self}

-- ---- lists without a common entry

module _ {A : Type 0} (same : A → A → Bool) (tells : (a b : A) → (same a b ≡ true) ↔ (a ≡ b)) (xs ys : List A) where
  disjoint_is : (disjoint same xs ys ≡ true) ↔ Disjoint xs ys
  unfolding disjoint
  disjoint_is = (
    λ h x m k. clash (any_at (same x) k ((tells x x).1 refl)) (not-true _ (all_at (λ (z : A). not (list_any (same z) ys)) xs h m)),
    λ apart. all_of (λ (z : A). not (list_any (same z) ys)) xs (λ x m. ⊎_elim
        (λ e. let w = any_where (same x) ys e in absurd (apart x m (Memᴰ.cast ((tells x w.0).0 w.2) w.1)))
        (λ e. ap not e)
        (decided (list_any (same x) ys))),
  )

owners_told : (a b : Owner) → (same_owner a b ≡ true) ↔ (a ≡ b)
owners_told a b = (same_owner_lem a b, λ e. rw e (same_self b))

numbers_told : (a b : ℕ) → (eqb a b ≡ true) ↔ (a ≡ b)
numbers_told a b = (eqb-true a b, eq-eqb a b)

-- ---- the premise

module _ (s : Store) (f : Sort) where
  names_nothing_is : (a b : ℕ) → (names_nothing_of s f a b ≡ true) ↔ NamesNothingOf s f a b
  unfolding names_nothing_of NamesNothingOf
  names_nothing_is a b =
      let values = disjoint_is eqb numbers_told (names_values s f a) (defines_values s f b) in
      let blocks = disjoint_is eqb numbers_told (names_blocks s f a) (defines_blocks s f b) in (
        λ h. (values.0 (and_left _ _ h), blocks.0 (and_right (disjoint eqb (names_values s f a) (defines_values s f b)) _ h)),
        λ p. and_both _ _ (values.1 p.0) (blocks.1 p.1),
      )

pub independent_is : IndependentIs
unfolding IndependentIs independent Premise
independent_is s f a b =
    let owners = disjoint_is same_owner owners_told (defines_owners s f a) (defines_owners s f b) in
    let forth = names_nothing_is s f a b in
    let back = names_nothing_is s f b a in (
      λ h. ⊎_elim (λ e. inl (eqb-true a b e)) (λ e. let p = passed _ e in inr (owners.0 p.0, forth.0 p.1.0, back.0 p.1.1.0)) (or_cases (eqb a b) _ h),
      λ p. ⊎_elim (λ e. or_left _ _ (eq-eqb a b e)) (λ q. or_right (eqb a b) _ (every_of _ (owners.1 q.0, (forth.1 q.1, (back.1 q.2, tt))))) p,
    )
