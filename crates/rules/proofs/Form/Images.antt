-- A table into which two lists are entered pair by pair, each left number once, gives as image of a left number its partner, and of
-- any other number that number itself: so an image equals the right name exactly when the two names are alike. Assumes nothing.
use Prim.Native.Nat.{ℕ, zero, suc, ◌+◌, ◌<◌, ◌≤◌}
use native.Mathlib.Nat.{not-suc-le-zero}
use native.Mathlib.Omega.{arith}
use mathlib.Core.Bool.{Bool, true, false, cond}
use mathlib.Core.List.Memᴰ
use mathlib.Core.List.{List, [], ◌∷◌, ◌++◌, Memᴰ}
use mathlib.Core.Logic.{⊎_elim, ◌≢◌}
use Rattle.std.specs.Prelude.{Option, None, Some}
use Rattle.std.proofs.lemmas.Option.{same_Some, none-some}
use mathlib.Core.Path.{◌≡◌, refl, sym, ap, ap₂, subst, ◌∙◌}
use borrow.Author.Tests.{eqb-true, eqb-false, eq-eqb, ne_eqb}
use lib.Dec.{eqb}
use lib.ListN.{length, get_or, length-append}
use Rattle.rules.specs.Lists.{position, later}
use Rattle.rules.specs.Mapping.{no_image, or_self, image, enter_all}
use Rattle.rules.specs.Hash.{name_at, name_of}
use Rattle.rules.proofs.Basics.Appended.{mem_get_d}
use Rattle.rules.proofs.Basics.Distinct.{Distinct, distinct_left}
use Rattle.rules.proofs.Basics.Entries.{enter_other, enter_at, enter_append}

-- ---- places

pub position_some : (v : ℕ) (xs : List ℕ) (i : ℕ) → position v xs ≡ Some i → (i < length xs) × (get_or xs i 0 ≡ v)
unfolding position later
position_some v [] i h = absurd (none-some i h)
position_some v (x ∷ xs) i h = go (eqb v x) refl (position v xs) refl (λ j. position_some v xs j) h
  where
    go : (b : Bool) → eqb v x ≡ b → (o : Option ℕ) → position v xs ≡ o → ((j : ℕ) → position v xs ≡ Some j → (j < length xs) × (get_or xs j 0 ≡ v))
        → cond b (Some 0) (later o) ≡ Some i → (i < length (x ∷ xs)) × (get_or (x ∷ xs) i 0 ≡ v)
    go true e o p rest k =
        let z : i ≡ 0 = sym (same_Some 0 i k) in
        (omega arith, ap (λ (n : ℕ). get_or (x ∷ xs) n 0) z ∙ sym (eqb-true v x e))
    go false e None p rest k = absurd (none-some i k)
    go false e (Some j) p rest k =
        let z : i ≡ suc j = sym (same_Some (suc j) i k) in
        let r = rest j p in
        (omega (arith, r.0), ap (λ (n : ℕ). get_or (x ∷ xs) n 0) z ∙ r.1)

pub position_none : (v : ℕ) (xs : List ℕ) → position v xs ≡ None → Memᴰ v xs → ⊥
unfolding position later
position_none v [] h m = Memᴰ.not-nil m
position_none v (x ∷ xs) h m = go (eqb v x) refl (position v xs) refl (λ p k. position_none v xs p k) h
  where
    go : (b : Bool) → eqb v x ≡ b → (o : Option ℕ) → position v xs ≡ o → (position v xs ≡ None → Memᴰ v xs → ⊥)
        → cond b (Some 0) (later o) ≡ None → ⊥
    go true e o p rest k = none-some 0 (sym k)
    go false e None p rest k = ⊎_elim (eqb-false v x e) (rest p) (Memᴰ.cases_cons m)
    go false e (Some j) p rest k = none-some (suc j) (sym k)

pub position_out : (v : ℕ) (xs : List ℕ) → (Memᴰ v xs → ⊥) → position v xs ≡ None
unfolding position later
position_out v [] out = refl
position_out v (x ∷ xs) out = rw (ne_eqb v x (λ e. out (Memᴰ.head e)), position_out v xs (λ m. out (Memᴰ.tail m)))

pub position_at : (xs : List ℕ) → Distinct xs → (i : ℕ) → i < length xs → position (get_or xs i 0) xs ≡ Some i
unfolding position later
position_at [] d i l = absurd (not-suc-le-zero l)
position_at (x ∷ xs) d zero l = rw (eq-eqb x x refl)
position_at (x ∷ xs) d (suc i) l =
    let h : i < length xs = omega arith in
    rw (ne_eqb (get_or xs i 0) x (λ e. d.0 (subst (λ (v : ℕ). Memᴰ v xs) e (mem_get_d xs i 0 h))), position_at xs d.1 i h)

-- ---- places in a list that grows at its end: a place that there is stays, and a number that has none gets the next

pub position_kept : (v : ℕ) (xs ys : List ℕ) (i : ℕ) → position v xs ≡ Some i → position v (xs ++ ys) ≡ Some i
unfolding position later
position_kept v [] ys i h = absurd (none-some i h)
position_kept v (x ∷ xs) ys i h = go (eqb v x) (position v xs) refl (λ j. position_kept v xs ys j) h
  where
    go : (b : Bool) (o : Option ℕ) → position v xs ≡ o → ((j : ℕ) → position v xs ≡ Some j → position v (xs ++ ys) ≡ Some j)
        → cond b (Some 0) (later o) ≡ Some i → cond b (Some 0) (later (position v (xs ++ ys))) ≡ Some i
    go true o p rest k = k
    go false None p rest k = absurd (none-some i k)
    go false (Some j) p rest k = rw (rest j p) k

pub position_next : (v : ℕ) (xs ys : List ℕ) → position v xs ≡ None → position v (xs ++ v ∷ ys) ≡ Some (length xs)
unfolding position later
position_next v [] ys h = rw (eq-eqb v v refl)
position_next v (x ∷ xs) ys h = go (eqb v x) (position v xs) refl (position_next v xs ys) h
  where
    go : (b : Bool) (o : Option ℕ) → position v xs ≡ o → (position v xs ≡ None → position v (xs ++ v ∷ ys) ≡ Some (length xs))
        → cond b (Some 0) (later o) ≡ None → cond b (Some 0) (later (position v (xs ++ v ∷ ys))) ≡ Some (suc (length xs))
    go true o p rest k = absurd (none-some 0 (sym k))
    go false None p rest k = rw (rest p)
    go false (Some j) p rest k = absurd (none-some (suc j) (sym k))

pub position_other : (v x : ℕ) (xs : List ℕ) → v ≢ x → position v (xs ++ x ∷ []) ≡ position v xs
unfolding position later
position_other v x [] ne = rw (ne_eqb v x ne)
position_other v x (y ∷ ys) ne = rw (position_other v x ys ne)

-- ---- images

or_self_other : (e v : ℕ) → e ≢ no_image → or_self e v ≡ e
unfolding or_self
or_self_other e v ne = rw (ne_eqb e no_image ne)

image_outside : (xs ys es : List ℕ) (v : ℕ) → (Memᴰ v xs → ⊥) → image (enter_all xs ys es) v ≡ image es v
unfolding image
image_outside xs ys es v out = ap (λ (e : ℕ). or_self e v) (enter_other xs ys es v out)

-- entered at numbers of the table, with images that are not taken for none
pub record Fits (size : ℕ) (xs ys : List ℕ) : Type 0 where
  pub inside : (x : ℕ) → Memᴰ x xs → x < size
  pub images : (y : ℕ) → Memᴰ y ys → y ≢ no_image

image_inside : (xs ys es : List ℕ) (v i : ℕ) → Distinct xs → length xs ≡ length ys → Fits (length es) xs ys → position v xs ≡ Some i
    → image (enter_all xs ys es) v ≡ get_or ys i 0
unfolding image
image_inside xs ys es v i d len fit p =
    let l : i < length ys = omega (arith, (position_some v xs i p).0) in
    ap (λ (e : ℕ). or_self e v) (enter_at xs ys es v i d len fit.inside p) ∙ or_self_other (get_or ys i 0) v (fit.images (get_or ys i 0) (mem_get_d ys i 0 l))

-- ---- names

-- a table that starts with none, into which the lists are entered
module _ (es xs ys : List ℕ) (empty : (v : ℕ) → image es v ≡ v) (dx : Distinct xs) (dy : Distinct ys) (len : length xs ≡ length ys) (fit : Fits (length es) xs ys) where
  -- an image equals the right name only if the names are alike; the left name is none of those defined on the right
  names_forth : (a b : ℕ) → (Memᴰ a ys → ⊥) → image (enter_all xs ys es) a ≡ b → name_of xs a ≡ name_of ys b
  unfolding name_of name_at
  names_forth a b out h = go (position a xs) refl
    where
      go : (o : Option ℕ) → position a xs ≡ o → name_at (position a xs) a ≡ name_at (position b ys) b
      go None p =
          let e : b ≡ a = sym h ∙ image_outside xs ys es a (position_none a xs p) ∙ empty a in
          let q : position b ys ≡ None = position_out b ys (λ m. out (subst (λ (n : ℕ). Memᴰ n ys) e m)) in
          rw (p, q, e)
      go (Some i) p =
          let e : get_or ys i 0 ≡ b = sym (image_inside xs ys es a i dx len fit p) ∙ h in
          let l : i < length ys = omega (arith, (position_some a xs i p).0) in
          let q : position b ys ≡ Some i = subst (λ (n : ℕ). position n ys ≡ Some i) e (position_at ys dy i l) in
          rw (p, q)

  -- and always if they are
  names_back : (a b : ℕ) → name_of xs a ≡ name_of ys b → image (enter_all xs ys es) a ≡ b
  unfolding name_of name_at
  names_back a b h = go (position a xs) refl (position b ys) refl h
    where
      go : (o : Option ℕ) → position a xs ≡ o → (q : Option ℕ) → position b ys ≡ q → name_at o a ≡ name_at q b → image (enter_all xs ys es) a ≡ b
      go None p None q e = image_outside xs ys es a (position_none a xs p) ∙ empty a ∙ cc
      go None p (Some j) q e = cc
      go (Some i) p None q e = cc
      go (Some i) p (Some j) q e =
          let z : i ≡ j = cc in
          image_inside xs ys es a i dx len fit p ∙ ap (λ (n : ℕ). get_or ys n 0) z ∙ (position_some b ys j q).1

-- ---- a table in the course of a walk

-- the table that a walk begins with: no number has an image
pub record Empty (E : List ℕ) : Type 0 where
  pub self : (v : ℕ) → image E v ≡ v
  pub small : length E ≤ no_image

-- all that a fragment defines of one kind: each number once, and a number of the table
pub record Once (size : ℕ) (D : List ℕ) : Type 0 where
  pub once : Distinct D
  pub inside : (v : ℕ) → Memᴰ v D → v < size

-- the table m is what has been defined on the left and on the right, side by side
pub record Entered (E m L R : List ℕ) : Type 0 where
  pub made : m ≡ enter_all L R E
  pub lengths : length L ≡ length R

pub entered_more : (E m L R l r : List ℕ) → Entered E m L R → length l ≡ length r → Entered E (enter_all l r m) (L ++ l) (R ++ r)
entered_more E m L R l r h len =
    record {
      made = ap (enter_all l r) h.made ∙ sym (enter_append L R l r E h.lengths);
      lengths = length-append L l ∙ ap₂ ◌+◌ h.lengths len ∙ sym (length-append R r);
    }

-- L and R are defined so far, l and r are still to come
module _ (E DL DR : List ℕ) (empty : Empty E) (WL : Once (length E) DL) (WR : Once (length E) DR)
    (L l R r m : List ℕ) (e_l : L ++ l ≡ DL) (e_r : R ++ r ≡ DR) (h : Entered E m L R) where
  fits : Fits (length E) L R
  fits =
      record {
        inside = λ x k. WL.inside x (subst (Memᴰ x) e_l (Memᴰ.append_left l k));
        images = λ y k. let a = WR.inside y (subst (Memᴰ y) e_r (Memᴰ.append_left r k)) in let b : length E ≤ no_image = empty.small in omega arith;
      }

  once_left : Distinct L
  once_left = distinct_left L l (subst Distinct (sym e_l) WL.once)

  once_right : Distinct R
  once_right = distinct_left R r (subst Distinct (sym e_r) WR.once)

  pub name_forth : (a b : ℕ) → (Memᴰ a DR → ⊥) → image m a ≡ b → name_of L a ≡ name_of R b
  name_forth a b out e =
      names_forth E L R empty.self once_left once_right h.lengths fits a b
      (λ k. out (subst (Memᴰ a) e_r (Memᴰ.append_left r k))) (rw h.made at e)

  pub name_back : (a b : ℕ) → name_of L a ≡ name_of R b → image m a ≡ b
  name_back a b e = rw h.made (names_back E L R empty.self once_left once_right h.lengths fits a b e)
