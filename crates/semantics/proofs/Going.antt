-- A table in the course of a comparison, seen from its end: it is what stands in it by now, with what is still to come entered side by
-- side. So what is entered next has its partners as images at the end, and a name that the end's table gives another image is one that was
-- early. Assumes nothing.
use Prim.Native.Nat.{ℕ, ◌<◌}
use native.Mathlib.Omega.{arith}
use mathlib.Core.List.Memᴰ
use mathlib.Core.List.{List, [], ◌∷◌, ◌++◌, map, map-append, head-eq_of_cons-eq, tail-eq_of_cons-eq, Memᴰ}
use mathlib.Core.Logic.{◌⊎◌, inl, inr, ◌≢◌}
use mathlib.Core.Path.{◌≡◌, refl, sym, ap, ap₂, subst, ◌∙◌}
use borrow.Author.Tests.{ne_eqb}
use lib.ListN.{length, get_or, set, length-set, length-map}
use lib.Seq.{get_or-set_same}
use Rattle.rules.specs.Mapping.{no_image, or_self, image, enter_all}
use Rattle.rules.proofs.Basics.Distinct.{Distinct}
use Rattle.rules.proofs.Basics.Entries.{enter_other, enter_append}
use Rattle.rules.proofs.Copying.Renumbered.{distinct_apart, distinct_right}
use Rattle.semantics.proofs.Images.{stands}

split : {A : Type 0} (xs ys zs ws : List A) → length xs ≡ length ys → xs ++ zs ≡ ys ++ ws → (xs ≡ ys) × (zs ≡ ws)
split [] [] zs ws l e = (refl, e)
split [] (y ∷ ys) zs ws l e = absurd (omega arith)
split (x ∷ xs) [] zs ws l e = absurd (omega arith)
split (x ∷ xs) (y ∷ ys) zs ws l e =
    let r = split xs ys zs ws (omega arith) (tail-eq_of_cons-eq e) in
    (ap₂ ◌∷◌ (head-eq_of_cons-eq e) r.0, r.1)

pub image_of : (table : List ℕ) (v y : ℕ) → get_or table v no_image ≡ y → y ≢ no_image → image table v ≡ y
unfolding image or_self
image_of table v y e ne = rw (e, ne_eqb y no_image ne)

pub images_all : (xs ys E : List ℕ) → Distinct xs → length xs ≡ length ys → ((x : ℕ) → Memᴰ x xs → x < length E) → ((y : ℕ) → Memᴰ y ys → y ≢ no_image)
    → map (image (enter_all xs ys E)) xs ≡ ys
unfolding enter_all
images_all [] [] E d l i n = refl
images_all [] (y ∷ ys) E d l i n = absurd (omega arith)
images_all (x ∷ xs) [] E d l i n = absurd (omega arith)
images_all (x ∷ xs) (y ∷ ys) E d l i n =
    ap₂ ◌∷◌
    (image_of (enter_all xs ys (set E x y)) x y (enter_other xs ys (set E x y) x d.0 ∙ get_or-set_same E x y no_image (i x (Memᴰ.head refl))) (n y (Memᴰ.head refl)))
    (images_all xs ys (set E x y) d.1 (omega arith) (λ z m. subst (λ (k : ℕ). z < k) (sym (length-set E x y)) (i z (Memᴰ.tail m))) (λ z m. n z (Memᴰ.tail m)))

-- the table z at the end, e by now; xs and ys are still to be entered
pub record Going (z e xs ys : List ℕ) : Type 0 where
  pub made : z ≡ enter_all xs ys e
  pub images : map (image z) xs ≡ ys
  pub free : (v : ℕ) → Memᴰ v xs → get_or e v no_image ≡ no_image
  pub once : Distinct xs

pub begun : (E xs ys : List ℕ) → ((v : ℕ) → get_or E v no_image ≡ no_image) → Distinct xs → length xs ≡ length ys
    → ((x : ℕ) → Memᴰ x xs → x < length E) → ((y : ℕ) → Memᴰ y ys → y ≢ no_image) → Going (enter_all xs ys E) E xs ys
begun E xs ys empty d l i n = record { made = refl; images = images_all xs ys E d l i n; free = λ v m. empty v; once = d }

-- l and r are entered
pub entered : (z e l r xs ys : List ℕ) → length l ≡ length r → Going z e (l ++ xs) (r ++ ys) → (map (image z) l ≡ r) × Going z (enter_all l r e) xs ys
entered z e l r xs ys n g =
    let s = split (map (image z) l) r (map (image z) xs) ys (length-map l (image z) ∙ n) (sym (map-append (image z) l xs) ∙ g.images) in (
      s.0,
      record {
        made = g.made ∙ enter_append l r xs ys e n;
        images = s.1;
        free = λ v m. enter_other l r e v (λ k. distinct_apart l xs g.once v k m) ∙ g.free v (Memᴰ.append_right l m);
        once = distinct_right l xs g.once;
      },
    )

-- a name's image by now is its image at the end, unless it is early and its own image
pub named : (z e xs ys : List ℕ) → Going z e xs ys → (v u : ℕ) → image e v ≡ u → (Memᴰ v xs → v ≡ u → ⊥) → image z v ≡ u
unfolding image or_self
named z e xs ys g v u h out = go (stands v xs)
  where
    go : Memᴰ v xs ⊎ (Memᴰ v xs → ⊥) → image z v ≡ u
    go (inl m) = absurd (out m (sym (rw (g.free v m)) ∙ h))
    go (inr k) = ap (λ (t : List ℕ). image t v) g.made ∙ ap (λ (n : ℕ). or_self n v) (enter_other xs ys e v k) ∙ h
