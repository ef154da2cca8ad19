-- Entries of a table into which two lists are entered pair by pair: what stands on the left has its partner as entry, if it stands there
-- once, and anything else has the entry that it had. Assumes nothing.
use Prim.Native.Nat.{ℕ, zero, suc, ◌<◌}
use native.Mathlib.Omega.{arith}
use mathlib.Core.Bool.{Bool, true, false, cond}
use mathlib.Core.List.{List, [], ◌∷◌, ◌++◌, Memᴰ}
use Rattle.std.specs.Prelude.{Option, None, Some}
use Rattle.std.proofs.lemmas.Option.{same_Some, none-some}
use mathlib.Core.Path.{◌≡◌, refl, sym, ap, subst, ◌∙◌}
use borrow.Author.Tests.{eqb-true}
use lib.Dec.{eqb}
use lib.ListN.{length, get_or, set, replicate, length-set}
use lib.Seq.{get_or-set_same, get_or-set_other}
use Rattle.rules.specs.Lists.{position, later}
use Rattle.rules.specs.Mapping.{no_image, enter_all}
use Rattle.rules.proofs.Basics.Distinct.{Distinct}

-- an empty table has no entry
pub none_at : (size v : ℕ) → get_or (replicate size no_image) v no_image ≡ no_image
none_at zero v = refl
none_at (suc size) zero = refl
none_at (suc size) (suc v) = none_at size v

-- what is not among the left numbers has the entry that it had
pub enter_other : (ls rs es : List ℕ) (v : ℕ) → (Memᴰ v ls → ⊥) → get_or (enter_all ls rs es) v no_image ≡ get_or es v no_image
unfolding enter_all
enter_other [] rs es v h = refl
enter_other (l ∷ ls) [] es v h = refl
enter_other (l ∷ ls) (r ∷ rs) es v h =
    enter_other ls rs (set es l r) v (λ m. h (Memᴰ.tail m)) ∙ get_or-set_other es l v r no_image (λ e. h (Memᴰ.head e))

-- what is has the number at the same place on the right
pub enter_at : (xs ys es : List ℕ) (v i : ℕ) → Distinct xs → length xs ≡ length ys → ((x : ℕ) → Memᴰ x xs → x < length es) → position v xs ≡ Some i
    → get_or (enter_all xs ys es) v no_image ≡ get_or ys i 0
unfolding enter_all position later
enter_at [] ys es v i d len inside h = absurd (none-some i h)
enter_at (x ∷ xs) [] es v i d len inside h = absurd (omega arith)
enter_at (x ∷ xs) (y ∷ ys) es v i d len inside h =
    go (eqb v x) refl (position v xs) refl
    (λ j p. enter_at xs ys (set es x y) v j d.1 (omega arith) (λ z m. subst (λ (n : ℕ). z < n) (sym (length-set es x y)) (inside z (Memᴰ.tail m))) p)
    h
  where
    go : (b : Bool) → eqb v x ≡ b → (o : Option ℕ) → position v xs ≡ o
        → ((j : ℕ) → position v xs ≡ Some j → get_or (enter_all xs ys (set es x y)) v no_image ≡ get_or ys j 0)
        → cond b (Some 0) (later o) ≡ Some i → get_or (enter_all xs ys (set es x y)) v no_image ≡ get_or (y ∷ ys) i 0
    go true e o p rest k =
        let z : 0 ≡ i = same_Some 0 i k in
        let q : v ≡ x = eqb-true v x e in
        enter_other xs ys (set es x y) v (λ m. d.0 (subst (λ (n : ℕ). Memᴰ n xs) q m))
        ∙ ap (λ (n : ℕ). get_or (set es x y) n no_image) q
        ∙ get_or-set_same es x y no_image (inside x (Memᴰ.head refl))
        ∙ ap (λ (n : ℕ). get_or (y ∷ ys) n 0) z
    go false e None p rest k = absurd (none-some i k)
    go false e (Some j) p rest k = rest j p ∙ ap (λ (n : ℕ). get_or (y ∷ ys) n 0) (same_Some (suc j) i k)

-- entering goes on where it left off
pub enter_append : (xs ys xs' ys' es : List ℕ) → length xs ≡ length ys → enter_all (xs ++ xs') (ys ++ ys') es ≡ enter_all xs' ys' (enter_all xs ys es)
unfolding enter_all
enter_append [] [] xs' ys' es len = refl
enter_append [] (y ∷ ys) xs' ys' es len = absurd (omega arith)
enter_append (x ∷ xs) [] xs' ys' es len = absurd (omega arith)
enter_append (x ∷ xs) (y ∷ ys) xs' ys' es len = enter_append xs ys xs' ys' (set es x y) (omega arith)
