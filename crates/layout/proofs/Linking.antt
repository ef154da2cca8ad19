-- Links: what the test of a link says, that a link leads to the next child, and what the links of a laid out buffer are. Assumes nothing.
use Prim.Native.Nat.{ℕ, zero, suc, ◌+◌, ◌-◌, ◌<◌, ◌≤◌}
use native.Mathlib.Decide.{ℕ_discrete}
use native.Mathlib.Numerals.{add-one}
use native.Mathlib.Omega.{arith}
use mathlib.Core.Bool.{Bool, true, false, cond, ◌&&◌}
use Rattle.std.specs.Prelude.{Option, None, Some}
use mathlib.Core.Path.{◌≡◌, refl, sym, ap, subst, ◌∙◌}
use borrow.Author.Tests.{eqb-true, eq-eqb, ne_eqb, ltb-true, lt-ltb}
use lib.Dec.{eqb, ltb}
use Rattle.rules.proofs.Basics.Tests.{and_left, and_right, and_both}
use Rattle.layout.specs.Columns.{Cols, at, op_parent, op_next, region_block_end, block_region, block_op_end, block_next}
use Rattle.layout.specs.Reading.{op_count, block_count, parent_from}
use Rattle.std.specs.Prelude as std
use Rattle.layout.specs.Children.{first_word, word_from, link_found, behind_child}
use Rattle.layout.specs.Soundness.{placed, next_child, link_holds, parent_linked, op_linked, block_linked}
use Rattle.layout.proofs.Laid.{Laid}
use Rattle.layout.proofs.Nesting.{placed_facts}

-- ---- the test of a link

pub record LinkHolds (next word end n : ℕ) : Type 0 where
  pub link : word ≡ next
  pub last : next ≡ 0 → end ≡ n + 1

pub link_facts : (next link end n : ℕ) → link_holds next link end n ≡ true → LinkHolds next link end n
unfolding link_holds
link_facts next link end n h =
    record {
      link = eqb-true link next (and_left _ _ h);
      last = λ z. eqb-true end (n + 1) (sym (ap (λ (b : Bool). cond b (eqb end (n + 1)) true) (eq-eqb next 0 z)) ∙ and_right (eqb link next) _ h);
    }

pub link_of : (next link end n : ℕ) → LinkHolds next link end n → link_holds next link end n ≡ true
unfolding link_holds
link_of next link end n h = and_both _ _ (eq-eqb link next h.link) (go (ℕ_discrete next 0))
  where
    go : Dec (next ≡ 0) → cond (eqb next 0) (eqb end (n + 1)) true ≡ true
    go (yes z) = ap (λ (b : Bool). cond b (eqb end (n + 1)) true) (eq-eqb next 0 z) ∙ eq-eqb end (n + 1) (h.last z)
    go (no ne) = ap (λ (b : Bool). cond b (eqb end (n + 1)) true) (ne_eqb next 0 ne)

-- the same, as the code tests it

module _ (next link end n : ℕ) where
  pub link_differs : (link ≡ next → ⊥) → link_holds next link end n ≡ false
  unfolding link_holds
  link_differs ne = ap (λ (b : Bool). b && cond (eqb next 0) (eqb end (n + 1)) true) (ne_eqb link next ne)

  pub link_inner : link ≡ next → (next ≡ 0 → ⊥) → link_holds next link end n ≡ true
  link_inner e ne = link_of next link end n (record { link = e; last = λ z. absurd (ne z) })

  pub link_last : link ≡ next → next ≡ 0 → link_holds next link end n ≡ eqb end (n + 1)
  unfolding link_holds
  link_last e z =
      ap (λ (b : Bool). b && cond (eqb next 0) (eqb end (n + 1)) true) (eq-eqb link next e)
      ∙ ap (λ (b : Bool). cond b (eqb end (n + 1)) true) (eq-eqb next 0 z)

-- ---- the next child

pub link_at : (link : ℕ) → (link ≡ 0 → ⊥) → std.Some link ≡ link_found link
unfolding link_found
link_at zero ne = absurd (ne refl)
link_at (suc n) ne = refl

module _ (C : Cols) (k w : ℕ) where
  word_above : (a n m : ℕ) → first_word C k w a n ≡ Some m → a ≤ m
  unfolding first_word
  word_above a zero m e = absurd (let z : ◌≡◌ {A = ℕ} 0 1 = cc in omega arith)
  word_above a (suc n) m e = go (eqb (at C k a) w) e (λ q. word_above (suc a) n m q)
    where
      go : (b : Bool) → cond b (Some a) (first_word C k w (suc a) n) ≡ Some m → (first_word C k w (suc a) n ≡ Some m → suc a ≤ m) → a ≤ m
      go true q rest = let z : a ≡ m = cc in omega arith
      go false q rest = let l = rest q in omega arith

  -- a word from a number above 0 on leads to what was found
  pub link_leads : (a n : ℕ) → 0 < a → link_found (word_from (first_word C k w a n)) ≡ (first_word C k w a n)
  unfolding link_found word_from
  link_leads a n l = go (first_word C k w a n) (λ m e. let b = word_above a n m e in omega arith)
    where
      go : (o : Option ℕ) → ((m : ℕ) → o ≡ Some m → 0 < m) → link_found (word_from o) ≡ o
      go None f = refl
      go (Some zero) f = absurd (let b = f zero refl in omega arith)
      go (Some (suc m)) f = refl

-- ---- what the links of a laid out buffer lead to

pub record Behind (C : Cols) (owners count w from : ℕ) : Type 0 where
  pub above : 0 < from
  pub exists : from - 1 < count
  pub word : at C owners (from - 1) ≡ w

pub behind_by_lem : (C : Cols) (owners count w from : ℕ) → (from ≡ 0 → ⊥) → from ≤ count → behind_child C owners count w from ≡ eqb (at C owners (from - 1)) w
unfolding behind_child
behind_by_lem C owners count w zero ne l = absurd (ne refl)
behind_by_lem C owners count w (suc n) ne l =
    ap (λ (b : Bool). b && eqb (at C owners n) w) (lt-ltb n count (omega arith))
    ∙ ap (λ (i : ℕ). eqb (at C owners i) w) (let z : n ≡ suc n - 1 = omega arith in z)

pub behind_facts : (C : Cols) (owners count w from : ℕ) → behind_child C owners count w from ≡ true → Behind C owners count w from
unfolding behind_child
behind_facts C owners count w zero h = absurd (let z : ◌≡◌ {A = ℕ} 0 1 = cc in omega arith)
behind_facts C owners count w (suc n) h =
    let z : suc n - 1 ≡ n = omega arith in
    record {
      above = omega arith;
      exists = subst (λ (i : ℕ). i < count) (sym z) (ltb-true n count (and_left _ _ h));
      word = ap (at C owners) z ∙ eqb-true (at C owners n) w (and_right (ltb n count) _ h);
    }

module _ (C : Cols) (h : Laid C) where
  pub op_link_lem : (b n : ℕ) → n < op_count C → at C op_parent n ≡ b + 1 → LinkHolds (next_child C op_parent (op_count C) n) (at C op_next n) (at C block_op_end b) n
  unfolding op_linked parent_linked parent_from
  op_link_lem b n l e =
      link_facts _ _ _ n (subst (λ (w : ℕ). parent_linked C n (parent_from w) (next_child C op_parent (op_count C) n) ≡ true) (e ∙ add-one b) (h.op_link n l))

  pub block_link_lem : (r m : ℕ) → m < block_count C → at C block_region m ≡ r → LinkHolds (next_child C block_region (block_count C) m) (at C block_next m) (at C region_block_end r) m
  unfolding block_linked
  block_link_lem r m l e =
      link_facts _ _ _ m (subst (λ (x : ℕ). link_holds (next_child C block_region (block_count C) m) (at C block_next m) (at C region_block_end x) m ≡ true) e (h.block_link m l))

-- a parent's word is that of a block, or 0
pub parent_low : (C : Cols) (n w : ℕ) → placed C n (parent_from w) ≡ true → w ≤ block_count C
unfolding parent_from
parent_low C n zero t = omega arith
parent_low C n (suc b) t = let l = (placed_facts C n b t).block_in in omega arith
