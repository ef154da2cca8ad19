-- The image of a number in a table that pairs one to one: of what is defined on the left its partner, of anything else itself. Assumes
-- nothing.
use Prim.Native.Nat.{ℕ}
use mathlib.Core.Bool.{Bool, true, false}
use mathlib.Core.List.{List, [], ◌∷◌, map, Memᴰ}
use mathlib.Core.Logic.{◌⊎◌, inl, inr}
use Rattle.std.specs.Prelude.{Option, None, Some}
use mathlib.Core.Path.{◌≡◌, refl, sym, ap, subst, ◌∙◌}
use borrow.Author.Tests.{eqb-true, eqb-false, ne_eqb, eq-eqb}
use lib.Dec.{eqb}
use lib.ListN.{get_or}
use Rattle.std.specs.List.{list_any}
use Rattle.rules.specs.Lists.{position}
use Rattle.rules.specs.Mapping.{no_image, or_self, image}
use Rattle.rules.specs.MappingLaws.{Entry, Bijection}
use Rattle.rules.proofs.Basics.Appended.{mem_get_d}
use Rattle.rules.proofs.Form.Images.{position_some, position_none}

-- a number stands in a list or doesn't
pub stands : (v : ℕ) (xs : List ℕ) → Memᴰ v xs ⊎ (Memᴰ v xs → ⊥)
stands v xs = go (position v xs) refl
  where
    go : (o : Option ℕ) → position v xs ≡ o → Memᴰ v xs ⊎ (Memᴰ v xs → ⊥)
    go None e = inr (position_none v xs e)
    go (Some i) e = let p = position_some v xs i e in inl (subst (λ (x : ℕ). Memᴰ x xs) p.1 (mem_get_d xs i 0 p.0))

-- the entry at a number is what it has as image, or there is none and it is its own
image_entry : (table : List ℕ) (v : ℕ) → Entry table v (image table v) ⊎ ((get_or table v no_image ≡ no_image) × (image table v ≡ v))
unfolding image or_self
image_entry table v = go (eqb (get_or table v no_image) no_image) refl
  where
    go : (b : Bool) → eqb (get_or table v no_image) no_image ≡ b
        → Entry table v (image table v) ⊎ ((get_or table v no_image ≡ no_image) × (image table v ≡ v))
    go true e = inr (eqb-true _ _ e, rw e)
    go false e = inl (rw e (refl, eqb-false _ _ e))

module _ (table left right : List ℕ) (bi : Bijection table left right) where
  pub image_out : (v : ℕ) → (Memᴰ v left → ⊥) → image table v ≡ v
  image_out v out = go (image_entry table v)
    where
      go : Entry table v (image table v) ⊎ ((get_or table v no_image ≡ no_image) × (image table v ≡ v)) → image table v ≡ v
      go (inl e) = absurd (out (bi.only v (image table v) e).0)
      go (inr e) = e.1

  pub entry_in : (v : ℕ) → Memᴰ v left → Entry table v (image table v)
  entry_in v m = go (image_entry table v)
    where
      go : Entry table v (image table v) ⊎ ((get_or table v no_image ≡ no_image) × (image table v ≡ v)) → Entry table v (image table v)
      go (inl e) = e
      go (inr e) = let w = bi.each v m in absurd (w.1.1 (sym w.1.0 ∙ e.0))

  pub image_in : (v : ℕ) → Memᴰ v left → Memᴰ (image table v) right
  image_in v m = (bi.only v (image table v) (entry_in v m)).1

  pub image_once : (v u : ℕ) → Memᴰ v left → Memᴰ u left → image table v ≡ image table u → v ≡ u
  image_once v u m k e =
      let p = entry_in v m in
      let q = entry_in u k in
      bi.once v u (image table v) p (q.0 ∙ sym e, p.1)

  -- a number other than one that is defined, and none of those on the right if it is none of those on the left, has another image
  pub image_other : (u v : ℕ) → Memᴰ v left → (Memᴰ u left ⊎ (Memᴰ u right → ⊥)) → (u ≡ v → ⊥) → image table u ≡ image table v → ⊥
  image_other u v m h ne e = go (stands u left) h
    where
      go : Memᴰ u left ⊎ (Memᴰ u left → ⊥) → Memᴰ u left ⊎ (Memᴰ u right → ⊥) → ⊥
      go (inl k) h = ne (image_once u v k m e)
      go (inr k) (inl j) = k j
      go (inr k) (inr j) = j (subst (λ (x : ℕ). Memᴰ x right) (sym e ∙ image_out u k) (image_in v m))

  -- a number stands among some that are defined exactly where its image stands among theirs
  pub any_image : (c : ℕ) (bs : List ℕ) → ((x : ℕ) → Memᴰ x bs → Memᴰ x left) → (Memᴰ c left ⊎ (Memᴰ c right → ⊥))
      → list_any (eqb (image table c)) (map (image table) bs) ≡ list_any (eqb c) bs
  any_image c [] sub h = refl
  any_image c (x ∷ bs) sub h =
      rw (any_image c bs (λ y m. sub y (Memᴰ.tail m)) h, first (eqb c x) refl)
    where
      first : (b : Bool) → eqb c x ≡ b → eqb (image table c) (image table x) ≡ eqb c x
      first true e = rw (e, eq-eqb (image table c) (image table x) (ap (image table) (eqb-true c x e)))
      first false e = rw (e, ne_eqb (image table c) (image table x) (image_other c x (sub x (Memᴰ.head refl)) h (eqb-false c x e)))
