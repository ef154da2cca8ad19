-- A child that is placed: its owner's range ends with it, the last child before it is linked to it, and it to none. Assumes nothing.
use Prim.Native.Nat.{ℕ, ◌+◌, ◌-◌, ◌<◌, ◌≤◌}
use native.Mathlib.Omega.{arith}
use mathlib.Core.Bool.{Bool, true, false, cond}
use mathlib.Core.List.{List}
use mathlib.Core.Path.{◌≡◌, refl, sym, ap, subst, ◌∙◌}
use borrow.Author.Tests.{eq-eqb}
use lib.Dec.{eqb}
use lib.ListN.{length, get_or, set, length-set}
use lib.Seq.{get_or-set_same, get_or-set_other}
use Rattle.layout.specs.Columns.{Cols, at, write}
use Rattle.layout.specs.Children.{behind_child}
use Rattle.layout.proofs.Laid.{Shaped, InRange}
use Rattle.layout.proofs.Buffer.{write_at, write_other, write_shaped}
use Rattle.layout.proofs.Linking.{behind_facts, behind_by_lem}
use Rattle.mutation.specs.AddedWrites.{extended, last_linked, child_linked, child_placed}
use Rattle.mutation.proofs.Extended.{Wider, extended_shaped, extended_other, extended_wider, extended_place, end_own, end_else}

-- the columns of owners, of links and of a range are apart
pub record Apart (owners links first end : ℕ) : Type 0 where
  pub first_end : eqb first end ≡ false
  pub end_first : eqb end first ≡ false
  pub first_links : eqb first links ≡ false
  pub end_links : eqb end links ≡ false
  pub links_first : eqb links first ≡ false
  pub links_end : eqb links end ≡ false

-- ---- links

module _ (C : Cols) (owners links end w n : ℕ) where
  last_other : (b : Bool) (j : ℕ) → eqb j links ≡ false → cond b (write C links (end - 1) n) C j ≡ C j
  last_other true j e = write_other C links (end - 1) n j e
  last_other false j e = refl

  linked_other : (j : ℕ) → eqb j links ≡ false → child_linked C owners links end w n j ≡ C j
  unfolding child_linked last_linked
  linked_other j e = write_other (last_linked C owners links end w n) links n 0 j e ∙ last_other (behind_child C owners n w end) j e

  last_shaped : (b : Bool) → Shaped C → Shaped (cond b (write C links (end - 1) n) C)
  last_shaped true sh = write_shaped C links (end - 1) n sh
  last_shaped false sh = sh

  linked_shaped : Shaped C → Shaped (child_linked C owners links end w n)
  unfolding child_linked last_linked
  linked_shaped sh = write_shaped (last_linked C owners links end w n) links n 0 (last_shaped (behind_child C owners n w end) sh)

  -- the column of links, by whether there is a last child
  links_with : (b : Bool) → behind_child C owners n w end ≡ b → child_linked C owners links end w n links ≡ set (cond b (set (C links) (end - 1) n) (C links)) n 0
  unfolding child_linked last_linked
  links_with true e =
      write_at (last_linked C owners links end w n) links n 0
      ∙ ap (λ (xs : List ℕ). set xs n 0) (ap (λ (t : Bool). cond t (write C links (end - 1) n) C links) e ∙ write_at C links (end - 1) n)
  links_with false e =
      write_at (last_linked C owners links end w n) links n 0
      ∙ ap (λ (xs : List ℕ). set xs n 0) (ap (λ (t : Bool). cond t (write C links (end - 1) n) C links) e)

  module _ (long : n < length (C links)) where
    linked_new : at (child_linked C owners links end w n) links n ≡ 0
    unfolding at
    linked_new = go (behind_child C owners n w end) refl
      where
        go : (b : Bool) → behind_child C owners n w end ≡ b → get_or (child_linked C owners links end w n links) n 0 ≡ 0
        go true e = ap (λ (xs : List ℕ). get_or xs n 0) (links_with true e) ∙ get_or-set_same (set (C links) (end - 1) n) n 0 0 (rw length-set long)
        go false e = ap (λ (xs : List ℕ). get_or xs n 0) (links_with false e) ∙ get_or-set_same (C links) n 0 0 long

    linked_last : (i : ℕ) → i < n → at C owners i ≡ w → i + 1 ≡ end → at (child_linked C owners links end w n) links i ≡ n
    unfolding at
    linked_last i l a e =
        let z : end - 1 ≡ i = omega arith in
        let there : behind_child C owners n w end ≡ true = behind_by_lem C owners n w end (λ q. omega arith) (omega arith) ∙ eq-eqb _ w (ap (at C owners) z ∙ a) in
        ap (λ (xs : List ℕ). get_or xs i 0) (links_with true there)
        ∙ get_or-set_other (set (C links) (end - 1) n) n i 0 0 (λ q. omega arith)
        ∙ ap (λ (k : ℕ). get_or (set (C links) k n) i 0) z ∙ get_or-set_same (C links) i n 0 (omega arith)

    linked_else : (i : ℕ) → i < n → (at C owners i ≡ w → i + 1 ≡ end → ⊥) → at (child_linked C owners links end w n) links i ≡ at C links i
    unfolding at
    linked_else i l not_last = go (behind_child C owners n w end) refl
      where
        go : (b : Bool) → behind_child C owners n w end ≡ b → get_or (child_linked C owners links end w n links) i 0 ≡ get_or (C links) i 0
        go false e = ap (λ (xs : List ℕ). get_or xs i 0) (links_with false e) ∙ get_or-set_other (C links) n i 0 0 (λ q. omega arith)
        go true e =
            let f = behind_facts C owners n w end e in
            ap (λ (xs : List ℕ). get_or xs i 0) (links_with true e)
            ∙ get_or-set_other (set (C links) (end - 1) n) n i 0 0 (λ q. omega arith)
            ∙ get_or-set_other (C links) (end - 1) i n 0 (λ q. not_last (ap (at C owners) q ∙ f.word) (omega (arith, f.above)))

-- ---- the whole

module _ (C : Cols) (owners links first end owner w n : ℕ) (a : Apart owners links first end) where
  abbrev L : Cols
  L = child_linked C owners links (at C end owner) w n

  pub placed_shaped : Shaped C → Shaped (child_placed C owners links first end owner w n)
  unfolding child_placed
  placed_shaped sh = extended_shaped L first end owner n (linked_shaped C owners links (at C end owner) w n sh)

  pub placed_other : (j : ℕ) → eqb j first ≡ false → eqb j end ≡ false → eqb j links ≡ false → child_placed C owners links first end owner w n j ≡ C j
  unfolding child_placed
  placed_other j p q r = extended_other L first end owner n a.first_end a.end_first j p q ∙ linked_other C owners links (at C end owner) w n j r

  first_same : L first ≡ C first
  first_same = linked_other C owners links (at C end owner) w n first a.first_links

  end_same : L end ≡ C end
  end_same = linked_other C owners links (at C end owner) w n end a.end_links

  first_at_lem : (m : ℕ) → at L first m ≡ at C first m
  unfolding at
  first_at_lem m = ap (λ (xs : List ℕ). get_or xs m 0) first_same

  end_at : (m : ℕ) → at L end m ≡ at C end m
  unfolding at
  end_at m = ap (λ (xs : List ℕ). get_or xs m 0) end_same

  pub placed_wider : (m : ℕ) → m < length (C first) → m < length (C end) → at C end m ≤ n
      → Wider (at C first m) (at C end m) (at (child_placed C owners links first end owner w n) first m) (at (child_placed C owners links first end owner w n) end m) n
  unfolding child_placed
  placed_wider m lf le l =
      let w = extended_wider L first end owner n a.first_end a.end_first m (subst (λ (xs : List ℕ). m < length xs) (sym first_same) lf) (subst (λ (xs : List ℕ). m < length xs) (sym end_same) le) (omega (arith, end_at m)) in
      subst (λ (x : ℕ). Wider x (at C end m) (at (extended L first end owner n) first m) (at (extended L first end owner n) end m) n) (first_at_lem m)
      (subst (λ (y : ℕ). Wider (at L first m) y (at (extended L first end owner n) first m) (at (extended L first end owner n) end m) n) (end_at m) w)

  pub placed_place : owner < length (C first) → owner < length (C end) → at C end owner ≤ n
      → InRange (at (child_placed C owners links first end owner w n) first owner) (at (child_placed C owners links first end owner w n) end owner) n
  unfolding child_placed
  placed_place lf le l =
      extended_place L first end owner n a.first_end a.end_first (subst (λ (xs : List ℕ). owner < length xs) (sym first_same) lf) (subst (λ (xs : List ℕ). owner < length xs) (sym end_same) le) (omega (arith, end_at owner))

  pub placed_end : owner < length (C end) → at (child_placed C owners links first end owner w n) end owner ≡ n + 1
  unfolding child_placed
  placed_end le = end_own L first end owner n a.first_end a.end_first (subst (λ (xs : List ℕ). owner < length xs) (sym end_same) le)

  pub placed_end_else : (m : ℕ) → (m ≡ owner → ⊥) → at (child_placed C owners links first end owner w n) end m ≡ at C end m
  unfolding child_placed
  placed_end_else m ne = end_else L first end owner n a.first_end a.end_first m ne ∙ end_at m

  -- ---- the column of links

  links_column : child_placed C owners links first end owner w n links ≡ L links
  unfolding child_placed
  links_column = extended_other L first end owner n a.first_end a.end_first links a.links_first a.links_end

  links_at : (i : ℕ) → at (child_placed C owners links first end owner w n) links i ≡ at L links i
  unfolding at
  links_at i = ap (λ (xs : List ℕ). get_or xs i 0) links_column

  module _ (long : n < length (C links)) where
    pub placed_new : at (child_placed C owners links first end owner w n) links n ≡ 0
    placed_new = links_at n ∙ linked_new C owners links (at C end owner) w n long

    pub placed_last : (i : ℕ) → i < n → at C owners i ≡ w → i + 1 ≡ at C end owner → at (child_placed C owners links first end owner w n) links i ≡ n
    placed_last i l e q = links_at i ∙ linked_last C owners links (at C end owner) w n long i l e q

    pub placed_else : (i : ℕ) → i < n → (at C owners i ≡ w → i + 1 ≡ at C end owner → ⊥) → at (child_placed C owners links first end owner w n) links i ≡ at C links i
    placed_else i l ne = links_at i ∙ linked_else C owners links (at C end owner) w n long i l ne
