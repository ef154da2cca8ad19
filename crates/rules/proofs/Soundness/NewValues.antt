-- Values of a new owner: no value of a sound store names it, and the new values name no other, so old owners keep their values and the new
-- one has just its own. Assumes nothing.
use Prim.Native.Nat.{ℕ}
use mathlib.Core.Bool.{Bool, true, false}
use mathlib.Core.List.Memᴰ
use mathlib.Core.List.{List, ◌++◌, Memᴰ}
use mathlib.Core.Logic.{◌⊎◌, inl, inr}
use mathlib.Core.Path.{◌≡◌, refl, sym, ap, subst, ◌∙◌}
use borrow.Author.Tests.{eq-eqb}
use lib.ListN.{length, length-map}
use Rattle.std.specs.List.{list_all}
use Rattle.rules.specs.Store.{Store, Value, same_owner, owner_exists, values_of}
use Rattle.rules.specs.declared.types.Owner.{Owner}
use Rattle.rules.specs.declared.types.Owner.TheVariants.{Op as of_op, Block as of_block}
use Rattle.rules.specs.Building.{values_for}
use Rattle.rules.proofs.Basics.Tests.{all_at, all_of, decided, clash}
use Rattle.rules.proofs.Soundness.Children.{same_owner_lem}
use Rattle.rules.proofs.Soundness.Sound.{Sound}
use Rattle.rules.proofs.Basics.Appended.{numbers_before, numbers_new, all_append}
use Rattle.rules.proofs.Soundness.Grown.{Grown, values_kept}

pub same_self : (a : Owner) → same_owner a a ≡ true
unfolding same_owner
same_self (of_op a) = eq-eqb a a refl
same_self (of_block a) = eq-eqb a a refl

mem_values_for : (w : Owner) (types : List ℕ) (v : Value) → Memᴰ v (values_for w types) → v.owner ≡ w
unfolding values_for
mem_values_for w types v m = sym (ap (λ (x : Value). x.owner) (Memᴰ.of_map _ types m).2)

pub length_values_for : (w : Owner) (types : List ℕ) → length (values_for w types) ≡ length types
unfolding values_for
length_values_for w types = length-map types _

-- owners that a test tells apart differ
differ : (p : Owner → Bool) (a b : Owner) → (p a ≡ p b → ⊥) → same_owner a b ≡ false
differ p a b n = go (decided (same_owner a b))
  where
    go : (same_owner a b ≡ true) ⊎ (same_owner a b ≡ false) → same_owner a b ≡ false
    go (inl e) = absurd (n (ap p (same_owner_lem a b e)))
    go (inr e) = e

module _ (s t : Store) (h : Sound s) (w : Owner) (types : List ℕ) (grew : t.values ≡ s.values ++ values_for w types) (new : owner_exists s w ≡ false) where
  pub values_before : (a : Owner) → owner_exists s a ≡ true → values_of t a ≡ values_of s a
  unfolding values_of
  values_before a e = rw grew (numbers_before _ s.values (values_for w types) (λ v m. rw (mem_values_for w types v m) (differ (owner_exists s) w a (λ q. clash (q ∙ e) new))))

  pub values_new : length (values_of t w) ≡ length types
  unfolding values_of
  values_new = rw grew (numbers_new _ s.values (values_for w types) (λ v m. differ (owner_exists s) v.owner w (λ q. clash (all_at _ s.values h.values_in m) (q ∙ new))) (λ v m. rw (mem_values_for w types v m) (same_self w)) ∙ length_values_for w types)

  pub values_in_lem : Grown s t → owner_exists t w ≡ true → list_all (λ (v : Value). owner_exists t v.owner) t.values ≡ true
  values_in_lem g e = subst (λ (vs : List Value). list_all (λ (v : Value). owner_exists t v.owner) vs ≡ true) (sym grew) (all_append _ s.values (values_for w types) (values_kept s t g h) (all_of _ _ (λ v m. rw (mem_values_for w types v m) e)))
