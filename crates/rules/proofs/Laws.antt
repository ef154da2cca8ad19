-- Demand 3. Equality is equality of canonical forms, up to 01's premise, which is needed only to come from equal fragments to equal
-- forms: so it is reflexive, symmetric and transitive, and equal fragments have equal hashes. The store after every list of calls is
-- sound. Assumes nothing.
use Prim.Native.Nat.{ℕ}
use mathlib.Core.Logic.{◌⊎◌, inl, inr}
use mathlib.Core.Path.{◌≡◌, refl, sym, ◌∙◌}
use Rattle.rules.specs.Store.{Store, empty_store}
use Rattle.rules.specs.Fragments.{Premise, NamesNothingOf}
use Rattle.rules.specs.declared.types.Sort.{Sort}
use Rattle.rules.specs.Building.{after}
use Rattle.rules.specs.Laws.{Equal, In, LawsOfSound, Demand3}
use Rattle.rules.specs.Form.{canonical}
use Rattle.rules.proofs.Form.Canonical.{canonical→equal, equal→canonical, canonical→hash}
use Rattle.rules.proofs.Soundness.Kept.{empty_sound, after_sound}

-- of the premise only this is used
pub one_way : (s : Store) (f : Sort) (a b : ℕ) → Premise s f a b → (a ≡ b) ⊎ NamesNothingOf s f a b
unfolding Premise
one_way s f a b (inl e) = inl e
one_way s f a b (inr p) = inr p.1

-- the premise is the same in both orders
pub premise_back : (s : Store) (f : Sort) (a b : ℕ) → Premise s f a b → Premise s f b a
unfolding Premise
premise_back s f a b (inl e) = inl (sym e)
premise_back s f a b (inr p) = inr (λ w m k. p.0 w k m, p.2, p.1)

pub laws_of_sound : LawsOfSound
unfolding LawsOfSound
laws_of_sound s sd ig f =
    record {
      reflexive = λ a ia. canonical→equal s sd ig f a a ia ia refl;
      symmetric = λ a b ia ib p e. canonical→equal s sd ig f b a ib ia (sym (same a b ia ib p e));
      transitive = λ a b c ia ib ic p q e g. canonical→equal s sd ig f a c ia ic (same a b ia ib p e ∙ same b c ib ic q g);
      hashes = λ a b ia ib p e. canonical→hash s ig f a b (same a b ia ib p e);
    }
  where
    same : (a b : ℕ) → In s f a → In s f b → Premise s f a b → Equal s ig f a b → canonical s ig f a ≡ canonical s ig f b
    same a b ia ib p e = equal→canonical s sd ig f a b ia ib (one_way s f a b p) e

pub demand3 : Demand3
unfolding Demand3 LawsOfSound
demand3 calls ig f = laws_of_sound (after empty_store calls) (after_sound empty_store calls empty_sound) ig f
