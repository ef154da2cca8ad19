-- Of two fragments of one sort that share an operation or block one is inside the other, and so defines fewer: all that it defines is defined
-- by the other, which defines something around it besides. Assumes nothing.
use Prim.Native.Nat.{ℕ, ◌<◌}
use native.Mathlib.Omega.{arith}
use mathlib.Core.Bool.{true}
use mathlib.Core.List.Memᴰ
use mathlib.Core.List.{◌∷◌, Memᴰ}
use mathlib.Core.Logic.{inl, inr, ⊎_elim}
use mathlib.Core.Path.{◌≡◌, sym, subst}
use lib.ListN.{length}
use Rattle.rules.specs.Store.{Store, sound}
use Rattle.rules.specs.declared.types.Owner.{Owner}
use Rattle.rules.specs.Fragments.{defines_owners, Disjoint}
use Rattle.rules.specs.declared.types.Sort.{Sort}
use Rattle.rules.specs.Laws.{In}
use Rattle.rules.proofs.Soundness.Sound.{Sound, facts}
use Rattle.rules.proofs.Basics.Pigeons.{distinct_most}
use Rattle.rules.proofs.Form.Ancestors.{Around, From, around_from, around_sibling, one_from_other, not_around_itself}
use Rattle.rules.proofs.Form.Roots.{Root, root_siblings, same_root}
use Rattle.rules.proofs.Form.Once.{owners_once, owners_from}
use Rattle.rules.proofs.Copying.Within.{all_inside, roots_defined}

module _ (s : Store) (h : sound s ≡ true) (f : Sort) where
  sd : Sound s
  sd = facts s h

  -- what c begins with is inside r, with which a begins
  record Inside (a c : ℕ) (r : Owner) : Type 0 where
    begins : Root s f a r
    around : (q : Owner) → Root s f c q → Around s r q

  module _ (a c : ℕ) (ia : In s f a) (ic : In s f c) where
    -- so all that c defines is, and r itself isn't defined by c
    fewer : (r : Owner) → Inside a c r → length (defines_owners s f c) < length (defines_owners s f a)
    fewer r i = distinct_most (r ∷ defines_owners s f c) (defines_owners s f a) (out, owners_once s sd f c ic) each
      where
        here : Memᴰ r (defines_owners s f a)
        here = roots_defined s h f a r i.begins

        out : Memᴰ r (defines_owners s f c) → ⊥
        out m =
            let w = (owners_from s sd f c ic r m).1 in
            not_around_itself s sd (owners_from s sd f a ia r here).0 (around_from (i.around w.0 w.1) w.2)

        each : (y : Owner) → Memᴰ y (r ∷ defines_owners s f c) → Memᴰ y (defines_owners s f a)
        each y m = ⊎_elim (λ e. Memᴰ.cast e here) inner (Memᴰ.cases_cons m)
          where
            inner : Memᴰ y (defines_owners s f c) → Memᴰ y (defines_owners s f a)
            inner k = let w = owners_from s sd f c ic y k in all_inside s h f a w.0 here (around_from (i.around w.1.0 w.1.1) w.1.2)

    -- it is enough that r is around one thing with which c begins, or that thing itself, but the two are not the same fragment
    one_around : (a ≡ c → ⊥) → (r q : Owner) → Root s f a r → Root s f c q → From s r q → length (defines_owners s f c) < length (defines_owners s f a)
    one_around ne r q ra rc (inl e) = absurd (ne (same_root s f a c r ra (subst (Root s f c) e rc)))
    one_around ne r q ra rc (inr k) = fewer r (record { begins = ra; around = λ p rp. around_sibling (root_siblings s f c q p rc rp) k })

  -- so two that define as many share nothing, or are the same
  pub as_many_apart : (a c : ℕ) → In s f a → In s f c → (a ≡ c → ⊥) → length (defines_owners s f a) ≡ length (defines_owners s f c)
      → Disjoint (defines_owners s f a) (defines_owners s f c)
  as_many_apart a c ia ic ne len w m k =
      let p = (owners_from s sd f a ia w m).1 in
      let q = (owners_from s sd f c ic w k).1 in
      ⊎_elim
      (λ d. omega (arith, one_around a c ia ic ne p.0 q.0 p.1 q.1 d))
      (λ d. omega (arith, one_around c a ic ia (λ e. ne (sym e)) q.0 p.0 q.1 p.1 d))
      (one_from_other p.2 q.2)
