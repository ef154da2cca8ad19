-- The premise of the laws goes along with equality. Of three fragments the first and the last define as many operations and blocks as the one
-- between, and so share none of them unless they are the same; and what the one names of the other it doesn't define itself, so that the
-- one between names it too, against the premise. Assumes nothing.
use Prim.Native.Nat.{ℕ}
use native.Mathlib.Decide.{ℕ_discrete}
use mathlib.Core.Logic.{inl, inr}
use mathlib.Core.Path.{◌≡◌, sym, subst, ◌∙◌}
use lib.ListN.{length}
use Rattle.rules.specs.Store.{Store, values_of}
use Rattle.rules.specs.Fragments.{block_owner, defines_owners, defines_values, defines_blocks, Disjoint, NamesNothingOf, Premise}
use Rattle.rules.specs.declared.types.Sort.{Sort}
use Rattle.rules.specs.declared.types.Ignore.{Ignore}
use Rattle.rules.specs.Laws.{Equal}
use Rattle.rules.specs.Form.{canonical}
use Rattle.rules.specs.GroupingLaws.{IndependentAlong}
use Rattle.rules.proofs.Basics.Distinct.{apart_concat_map}
use Rattle.rules.proofs.Soundness.Children.{values_in_lem}
use Rattle.rules.proofs.Form.Once.{block_owner_lem}
use Rattle.rules.proofs.Form.Passed.{equal_passed}
use Rattle.rules.proofs.Form.Canonical.{equal→canonical}
use Rattle.rules.proofs.Form.Outside.{outside_values, outside_blocks}
use Rattle.rules.proofs.Extents.Paired.{passed_count}
use Rattle.rules.proofs.Grouping.Shared.{as_many_apart}

-- ---- fragments that share no operation or block define no common value or block

module _ (s : Store) (f : Sort) (a c : ℕ) (apart : Disjoint (defines_owners s f a) (defines_owners s f c)) where
  values_apart : Disjoint (defines_values s f a) (defines_values s f c)
  unfolding defines_values
  values_apart =
      apart_concat_map (values_of s) (defines_owners s f a) (defines_owners s f c) (λ w x v m k. sym (values_in_lem s w m).1 ∙ (values_in_lem s x k).1) apart

  blocks_apart : Disjoint (defines_blocks s f a) (defines_blocks s f c)
  unfolding defines_blocks
  blocks_apart =
      apart_concat_map block_owner (defines_owners s f a) (defines_owners s f c) (λ w x b m k. block_owner_lem w b m ∙ sym (block_owner_lem x b k)) apart

  -- what b doesn't name of the one, the other doesn't, where it has b's form
  names_along : (ig : Ignore) (b : ℕ) → canonical s ig f b ≡ canonical s ig f c → NamesNothingOf s f b a → NamesNothingOf s f c a
  unfolding NamesNothingOf
  names_along ig b h out = (
    λ v m k. out.0 v (outside_values s ig f b c h v (λ d. values_apart v k d) m) k,
    λ v m k. out.1 v (outside_blocks s ig f b c h v (λ d. blocks_apart v k d) m) k,
  )

-- ---- along

as_many : (s : Store) (ig : Ignore) (f : Sort) (a b : ℕ) → Equal s ig f a b → length (defines_owners s f a) ≡ length (defines_owners s f b)
as_many s ig f a b e = (passed_count (equal_passed s ig f a b e)).1

pub independent_along : IndependentAlong
unfolding IndependentAlong Premise
independent_along s h ig f a b c ia ib ic (inl e) q eab ebc = subst (λ (x : ℕ). Premise s f x c) (sym e) q
independent_along s h ig f a b c ia ib ic p (inl e) eab ebc = subst (λ (x : ℕ). Premise s f a x) e p
independent_along s h ig f a b c ia ib ic (inr p) (inr q) eab ebc = go (ℕ_discrete a c)
  where
    ab : canonical s ig f a ≡ canonical s ig f b
    ab = equal→canonical s h ig f a b ia ib (inr p.1) eab

    bc : canonical s ig f b ≡ canonical s ig f c
    bc = equal→canonical s h ig f b c ib ic (inr q.1) ebc

    go : Dec (a ≡ c) → Premise s f a c
    go (yes e) = inl e
    go (no ne) =
        let apart : Disjoint (defines_owners s f a) (defines_owners s f c) = as_many_apart s h f a c ia ic ne (as_many s ig f a b eab ∙ as_many s ig f b c ebc) in
        inr (apart, names_along s f c a (λ w m k. apart w k m) ig b (sym ab) q.1, names_along s f a c apart ig b bc p.2)
