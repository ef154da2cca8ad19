-- Tables that are two lists entered side by side, each number once in each list and a number of the table: which number has which entry is
-- then a matter of places. So such a table is a bijection, reads backwards, and one follows another. Assumes nothing.
use Prim.Native.Nat.{ℕ, ◌<◌, ◌≤◌}
use native.Mathlib.Omega.{arith}
use mathlib.Core.List.{List, Memᴰ}
use mathlib.Core.Logic.{◌↔◌}
use Rattle.std.specs.Prelude.{Option, None, Some}
use Rattle.std.proofs.lemmas.Option.{same_Some}
use mathlib.Core.Path.{◌≡◌, refl, sym, ap, subst, ◌∙◌}
use lib.ListN.{length, get_or}
use Rattle.rules.specs.Lists.{position}
use Rattle.rules.specs.Mapping.{no_image, enter_all}
use Rattle.rules.specs.MappingLaws.{Entry, Bijection}
use Rattle.rules.proofs.Basics.Appended.{mem_get_d}
use Rattle.rules.proofs.Basics.Distinct.{Distinct}
use Rattle.rules.proofs.Basics.Entries.{enter_other, enter_at}
use Rattle.rules.proofs.Form.Images.{position_some, position_none, position_at, Once}

-- ---- places

-- l stands on the left where r stands on the right
record Beside (xs ys : List ℕ) (l r : ℕ) : Type 0 where
  place : ℕ
  inside : place < length xs
  left : get_or xs place 0 ≡ l
  right : get_or ys place 0 ≡ r

at_place : (xs : List ℕ) (v : ℕ) → Memᴰ v xs → (i : ℕ) × (i < length xs) × (get_or xs i 0 ≡ v)
at_place xs v m = go (position v xs) refl
  where
    go : (o : Option ℕ) → position v xs ≡ o → (i : ℕ) × (i < length xs) × (get_or xs i 0 ≡ v)
    go None p = absurd (position_none v xs p m)
    go (Some i) p = let at = position_some v xs i p in (i, at.0, at.1)

same_place : (xs : List ℕ) (i j : ℕ) → Distinct xs → i < length xs → j < length xs → get_or xs i 0 ≡ get_or xs j 0 → i ≡ j
same_place xs i j d li lj e =
    same_Some i j (sym (position_at xs d i li) ∙ ap (λ (v : ℕ). position v xs) e ∙ position_at xs d j lj)

turned : (xs ys : List ℕ) (l r : ℕ) → length xs ≡ length ys → Beside xs ys l r → Beside ys xs r l
turned xs ys l r len h = record { place = h.place; inside = omega arith; left = h.right; right = h.left }

-- ---- entries, into a table without any

module _ (E : List ℕ) (empty : (v : ℕ) → get_or E v no_image ≡ no_image) (small : length E ≤ no_image) where
  module _ (xs ys : List ℕ) (X : Once (length E) xs) (Y : Once (length E) ys) (len : length xs ≡ length ys) where
    entry→beside : (l r : ℕ) → Entry (enter_all xs ys E) l r → Beside xs ys l r
    entry→beside l r e = go (position l xs) refl
      where
        go : (o : Option ℕ) → position l xs ≡ o → Beside xs ys l r
        go None p = absurd (e.1 (sym e.0 ∙ enter_other xs ys E l (position_none l xs p) ∙ empty l))
        go (Some i) p =
            let at = position_some l xs i p in
            record { place = i; inside = at.0; left = at.1; right = sym (enter_at xs ys E l i X.once len X.inside p) ∙ e.0 }

    beside→entry : (l r : ℕ) → Beside xs ys l r → Entry (enter_all xs ys E) l r
    beside→entry l r h =
        let i = h.place in
        let p : position l xs ≡ Some i = subst (λ (v : ℕ). position v xs ≡ Some i) h.left (position_at xs X.once i h.inside) in
        let j : i < length ys = omega arith in
        let k : r < length E = Y.inside r (subst (λ (v : ℕ). Memᴰ v ys) h.right (mem_get_d ys i 0 j)) in
        (enter_at xs ys E l i X.once len X.inside p ∙ h.right, λ e. omega arith)

    pub bijection : Bijection (enter_all xs ys E) xs ys
    bijection =
        record {
          each = λ l m. let at = at_place xs l m in (get_or ys at.0 0, beside→entry l (get_or ys at.0 0) (record { place = at.0; inside = at.1; left = at.2; right = refl }));
          only = λ l r e. let h = entry→beside l r e in (
            subst (λ (v : ℕ). Memᴰ v xs) h.left (mem_get_d xs h.place 0 h.inside),
            subst (λ (v : ℕ). Memᴰ v ys) h.right (mem_get_d ys h.place 0 (omega arith)),
          );
          once = λ l m r e k.
              let h = entry→beside l r e in
              let g = entry→beside m r k in
              let p : h.place ≡ g.place = same_place ys h.place g.place Y.once (omega arith) (omega arith) (h.right ∙ sym g.right) in
              sym h.left ∙ ap (λ (i : ℕ). get_or xs i 0) p ∙ g.left;
          over = λ r m. let at = at_place ys r m in (get_or xs at.0 0, beside→entry (get_or xs at.0 0) r (record { place = at.0; inside = omega arith; left = refl; right = at.2 }));
        }

  pub reads_backwards : (xs ys : List ℕ) → Once (length E) xs → Once (length E) ys → length xs ≡ length ys
      → (l r : ℕ) → Entry (enter_all xs ys E) l r ↔ Entry (enter_all ys xs E) r l
  reads_backwards xs ys X Y len l r = (
    λ e. beside→entry ys xs Y X (sym len) r l (turned xs ys l r len (entry→beside xs ys X Y len l r e)),
    λ e. beside→entry xs ys X Y len l r (turned ys xs r l (sym len) (entry→beside ys xs Y X (sym len) r l e)),
  )

  pub one_follows : (xs ys zs : List ℕ) → Once (length E) xs → Once (length E) ys → Once (length E) zs → length xs ≡ length ys → length ys ≡ length zs
      → (l r : ℕ) → Entry (enter_all xs zs E) l r ↔ ((c : ℕ) × (Entry (enter_all xs ys E) l c × Entry (enter_all ys zs E) c r))
  one_follows xs ys zs X Y Z len len' l r = (
    λ e.
        let h = entry→beside xs zs X Z (len ∙ len') l r e in
        let c = get_or ys h.place 0 in (
          c,
          (
            beside→entry xs ys X Y len l c (record { place = h.place; inside = h.inside; left = h.left; right = refl }),
            beside→entry ys zs Y Z len' c r (record { place = h.place; inside = omega arith; left = refl; right = h.right }),
          ),
        ),
    λ w.
        let h = entry→beside xs ys X Y len l w.0 w.1.0 in
        let g = entry→beside ys zs Y Z len' w.0 r w.1.1 in
        let p : h.place ≡ g.place = same_place ys h.place g.place Y.once (omega arith) g.inside (h.right ∙ sym g.left) in
        beside→entry xs zs X Z (len ∙ len') l r
        (record { place = h.place; inside = h.inside; left = h.left; right = ap (λ (i : ℕ). get_or zs i 0) p ∙ g.right }),
  )
