-- The next child among those that stay is the old one, if that stays, and else none; so the links that are cut hold among them. Assumes nothing.
use Prim.Native.Nat.{ℕ, zero, suc, ◌+◌, ◌-◌, ◌<◌, ◌≤◌}
use native.Mathlib.Nat.{not-suc-le-zero}
use native.Mathlib.Decide.{ℕ_discrete}
use native.Mathlib.Omega.{arith}
use mathlib.Core.Bool.{Bool, true, false, cond}
use mathlib.Core.List.{List}
use Rattle.std.specs.Prelude.{Some}
use mathlib.Core.Path.{◌≡◌, refl, sym, ap, subst, ◌∙◌}
use borrow.Author.Tests.{eq-eqb}
use lib.Dec.{eqb, leb}
use lib.ListN.{get_or}
use Rattle.rules.proofs.Basics.Tests.{clash}
use Rattle.layout.specs.Columns.{Cols, at}
use Rattle.layout.specs.Children.{first_word, word_from}
use Rattle.layout.specs.Soundness.{next_child}
use Rattle.layout.proofs.Linking.{LinkHolds}
use Rattle.undo_log.specs.CutWrites.{link_cut}
use Rattle.undo_log.proofs.Written.{link_gone, link_stays}
use Rattle.undo_log.proofs.Ends.{Ended}

-- ---- the first entry with a word, of fewer

no_link : (count : ℕ) → link_cut count 0 ≡ 0
unfolding link_cut
no_link count = go (leb count 0)
  where
    go : (b : Bool) → ◌≡◌ {A = ℕ} (cond b 0 0) 0
    go true = refl
    go false = refl

module _ (C : Cols) (k w : ℕ) where
  -- what is found from a on is cut at a
  first_gone : (a m c : ℕ) → c ≤ a → link_cut c (word_from (first_word C k w a m)) ≡ 0
  unfolding first_word word_from
  first_gone a zero c l = no_link c
  first_gone a (suc m) c l = go (eqb (at C k a) w) (first_gone (suc a) m c (omega arith))
    where
      go : (b : Bool) → link_cut c (word_from (first_word C k w (suc a) m)) ≡ 0 → link_cut c (word_from (cond b (Some a) (first_word C k w (suc a) m))) ≡ 0
      go true rest = sym (link_gone c a l)
      go false rest = rest

  first_cut : (a n m : ℕ) → n ≤ m → word_from (first_word C k w a n) ≡ link_cut (a + n) (word_from (first_word C k w a m))
  unfolding first_word word_from
  first_cut a zero m l = sym (first_gone a m (a + 0) (omega arith))
  first_cut a (suc n) zero l = absurd (not-suc-le-zero l)
  first_cut a (suc n) (suc m) l = go (eqb (at C k a) w) (first_cut (suc a) n m (omega arith))
    where
      go : (b : Bool) → word_from (first_word C k w (suc a) n) ≡ link_cut (suc a + n) (word_from (first_word C k w (suc a) m))
          → word_from (cond b (Some a) (first_word C k w (suc a) n)) ≡ link_cut (a + suc n) (word_from (cond b (Some a) (first_word C k w (suc a) m)))
      go true rest = link_stays (a + suc n) a (omega arith)
      go false rest = rest ∙ ap (λ (c : ℕ). link_cut c (word_from (first_word C k w (suc a) m))) (let z : suc a + n ≡ a + suc n = omega arith in z)

  -- where none is found there is none
  first_none : (a n : ℕ) → 0 < a → word_from (first_word C k w a n) ≡ 0 → (i : ℕ) → a ≤ i → i < a + n → at C k i ≡ w → ⊥
  unfolding first_word word_from
  first_none a zero p z i l h e = omega arith
  first_none a (suc n) p z i l h e = go (eqb (at C k a) w) refl z (ℕ_discrete i a) (λ q f. first_none (suc a) n (omega arith) q i f (omega arith) e)
    where
      go : (b : Bool) → eqb (at C k a) w ≡ b → word_from (cond b (Some a) (first_word C k w (suc a) n)) ≡ 0 → Dec (i ≡ a)
          → (word_from (first_word C k w (suc a) n) ≡ 0 → suc a ≤ i → ⊥) → ⊥
      go true t q d rest = omega arith
      go false t q (yes f) rest = clash (eq-eqb (at C k a) w (subst (λ (x : ℕ). at C k x ≡ w) f e)) t
      go false t q (no f) rest = rest q (omega arith)

-- ---- the next child

module _ (C : Cols) (owners : ℕ) where
  next_cut : (N count n : ℕ) → n < N → N ≤ count → next_child C owners N n ≡ link_cut N (next_child C owners count n)
  unfolding next_child
  next_cut N count n l h =
      first_cut C owners (at C owners n) (n + 1) (N - (n + 1)) (count - (n + 1)) (omega arith)
      ∙ ap (λ (c : ℕ). link_cut c (word_from (first_word C owners (at C owners n) (n + 1) (count - (n + 1))))) (let z : n + 1 + (N - (n + 1)) ≡ N = omega arith in z)

  next_none : (N n : ℕ) → next_child C owners N n ≡ 0 → (i : ℕ) → n < i → i < N → at C owners i ≡ at C owners n → ⊥
  unfolding next_child
  next_none N n z i l h e = first_none C owners (at C owners n) (n + 1) (N - (n + 1)) (omega arith) z i (omega arith) (omega arith) e

-- ---- what was written of the first N children

-- of a column of links and one of ends; owners are below `size`, and those that stay below `most`
pub record Relinked (owners old links' ends' : List ℕ) (offset N most size : ℕ) : Type 0 where
  pub links : (n : ℕ) → n < N → get_or links' n 0 ≡ link_cut N (get_or old n 0)
  pub ends : (b : ℕ) → b < size → Ended owners offset N b (get_or ends' b 0)
  pub low : (b : ℕ) → b < most → get_or ends' b 0 ≤ N

pub child_linked_lem : (C : Cols) (owners links : ℕ) (links' ends' : List ℕ) (offset N most size count n b e : ℕ) → Relinked (C owners) (C links) links' ends' offset N most size
    → n < N → N ≤ count → b < size → at C owners n ≡ b + offset → LinkHolds (next_child C owners count n) (at C links n) e n
    → LinkHolds (next_child C owners N n) (get_or links' n 0) (get_or ends' b 0) n
unfolding at
child_linked_lem C owners links links' ends' offset N most size count n b e r l h lb q old =
    record {
      link = r.links n l ∙ ap (link_cut N) old.link ∙ sym (next_cut C owners N count n l h);
      last = λ z. (r.ends b lb).last n l q (λ j a c k. next_none C owners N n z j a c (k ∙ sym q));
    }
