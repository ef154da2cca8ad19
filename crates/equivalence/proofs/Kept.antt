-- Two runs of slots are compared kept slot by kept slot. Assumes nothing.
use Prim.Native.Nat.{ℕ, ◌<◌, ◌≤◌}
use native.Mathlib.Omega.{arith}
use mathlib.Core.Bool.{Bool, true, false, true≢false, ◌&&◌}
use mathlib.Core.List.{List, [], ◌∷◌, map, Memᴰ}
use mathlib.Core.Logic.{◌⊎◌, inl, inr}
use mathlib.Core.Path.{◌≡◌, refl, sym, ap, ap₂, subst, ◌∙◌}
use Rattle.rules.specs.Lists.{same_list}
use Rattle.rules.specs.Shells.{same_attribute}
use Rattle.rules.specs.declared.types.Ignore.{Ignore}
use Rattle.layout.specs.Columns.{Cols, slot_count}
use Rattle.layout.specs.Reading.{attribute_at}
use Rattle.fragments.specs.Ignoring.{kept_slots}
use Rattle.fragments.proofs.Kept.{kept_none, kept_by_slots, slot_in_run}
use Rattle.equivalence.specs.Slots.{same_kept}

module _ (C : Cols) (ig : Ignore) (i el j er : ℕ) where
  pub ended_both : el ≤ i → er ≤ j → same_kept C ig i el j er ≡ true
  unfolding same_kept same_list
  ended_both l r = ap₂ (same_list same_attribute) (kept_none C ig i el l) (kept_none C ig j er r)

-- the attributes of two lists of slots
abbrev slots_same : Cols → List ℕ → List ℕ → Bool
slots_same C xs ys = same_list same_attribute (map (attribute_at C) xs) (map (attribute_at C) ys)

-- what is left to compare of both runs is the answer
pub record Walking (C : Cols) (ig : Ignore) (l lend r rend : ℕ) (xs ys : List ℕ) : Type 0 where
  pub same : same_kept C ig l lend r rend ≡ slots_same C xs ys
  pub left : (x : ℕ) → Memᴰ x xs → x < slot_count
  pub right : (y : ℕ) → Memᴰ y ys → y < slot_count

module _ (C : Cols) (ig : Ignore) (l lend r rend : ℕ) where
  pub walk_begins : {xs ys : List ℕ} → xs ≡ kept_slots C ig l lend → ys ≡ kept_slots C ig r rend → lend ≤ slot_count → rend ≤ slot_count → Walking C ig l lend r rend xs ys
  unfolding same_kept
  walk_begins {xs} {ys} e f a b =
      record {
        same = ap₂ (same_list same_attribute) (kept_by_slots C ig l lend ∙ ap (map (attribute_at C)) (sym e)) (kept_by_slots C ig r rend ∙ ap (map (attribute_at C)) (sym f));
        left = λ x m. let here = slot_in_run C ig l lend x (subst (λ (zs : List ℕ). Memᴰ x zs) e m) in omega (arith, here.1);
        right = λ y m. let here = slot_in_run C ig r rend y (subst (λ (zs : List ℕ). Memᴰ y zs) f m) in omega (arith, here.1);
      }

  module _ {xs ys : List ℕ} (w : Walking C ig l lend r rend xs ys) where
    pub both_end : xs ≡ [] → ys ≡ [] → true ≡ same_kept C ig l lend r rend
    unfolding same_list
    both_end e f = sym (w.same ∙ ap₂ (slots_same C) e f)

    uneven : (us vs : List ℕ) → (us ≡ [] → ⊥) × (vs ≡ []) ⊎ (us ≡ []) × (vs ≡ [] → ⊥) → slots_same C us vs ≡ false
    unfolding same_list
    uneven [] [] (inl h) = absurd (h.0 refl)
    uneven [] [] (inr h) = absurd (h.1 refl)
    uneven [] (v ∷ vs) h = refl
    uneven (u ∷ us) [] h = refl
    uneven (u ∷ us) (v ∷ vs) (inl h) = let two : ◌≡◌ {A = List ℕ} (v ∷ vs) [] = h.1 in absurd (true≢false (cc two))
    uneven (u ∷ us) (v ∷ vs) (inr h) = let two : ◌≡◌ {A = List ℕ} (u ∷ us) [] = h.0 in absurd (true≢false (cc two))

    pub one_ends : (xs ≡ [] → ⊥) × (ys ≡ []) ⊎ (xs ≡ []) × (ys ≡ [] → ⊥) → false ≡ same_kept C ig l lend r rend
    one_ends h = sym (w.same ∙ uneven xs ys h)

    module _ {x y : ℕ} {us vs : List ℕ} (e : xs ≡ x ∷ us) (f : ys ≡ y ∷ vs) where
      pub x_in : x < slot_count
      x_in = w.left x (subst (λ (zs : List ℕ). Memᴰ x zs) (sym e) (Memᴰ.head refl))

      pub y_in : y < slot_count
      y_in = w.right y (subst (λ (zs : List ℕ). Memᴰ y zs) (sym f) (Memᴰ.head refl))

      heads : same_kept C ig l lend r rend ≡ same_attribute (attribute_at C x) (attribute_at C y) && slots_same C us vs
      unfolding same_list
      heads = w.same ∙ ap₂ (slots_same C) e f

      pub heads_differ : same_attribute (attribute_at C x) (attribute_at C y) ≡ false → false ≡ same_kept C ig l lend r rend
      heads_differ h = sym (heads ∙ ap (λ (t : Bool). t && slots_same C us vs) h)

      pub walk_goes_on : same_attribute (attribute_at C x) (attribute_at C y) ≡ true → Walking C ig l lend r rend us vs
      walk_goes_on h =
          record {
            same = heads ∙ ap (λ (t : Bool). t && slots_same C us vs) h;
            left = λ z m. w.left z (subst (λ (zs : List ℕ). Memᴰ z zs) (sym e) (Memᴰ.tail m));
            right = λ z m. w.right z (subst (λ (zs : List ℕ). Memᴰ z zs) (sym f) (Memᴰ.tail m));
          }
