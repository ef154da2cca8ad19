-- A loop that goes through two lists side by side: what is left to do, from the words as they are, is the whole from the words as they
-- were. It begins with the next pair, whose step ends the whole or leaves the rest. Assumes nothing.
use Rattle.std.specs.Prelude.{Result, Ok, Err}
use Prim.Native.Nat.{ℕ, ◌≤◌}
use mathlib.Core.Bool.{true≢false}
use mathlib.Core.List.{List, [], ◌∷◌, Memᴰ}
use mathlib.Core.Logic.{◌⊎◌, inl, inr}
use mathlib.Core.Path.{◌≡◌, refl, sym, ap₂, subst, ◌∙◌}
use Rattle.rules.specs.Comparison.{State, Pair, unequal, one_longer, Walk, on, ended, ◌>>=◌, pairwise, each_pair}
use Rattle.rules.specs.Answers.{neq}
use Rattle.rules.proofs.Walking.Paired.{Grows, grows_pairwise, grows_each}
use Rattle.equivalence.specs.Compares.{answer_of, state_of, max_paired, PairedFits}
use Rattle.equivalence.specs.Compares.{Compares}
use Rattle.equivalence.specs.declared.verdicts.Unequal.{Unequal}
use Rattle.equivalence.proofs.Telling.{told_ended, told_bind, told_over, told_uneven, few_now, few_part}

-- a walk over two lists, by a step for each pair: the first two are stepped through, and then the others
pub record Zips (step : ℕ → ℕ → State → Walk) (walk : List ℕ → List ℕ → State → Walk) : Type 0 where
  pub first : (l r : ℕ) (ls rs : List ℕ) (st : State) → walk (l ∷ ls) (r ∷ rs) st ≡ step l r st >>= walk ls rs
  pub grows : (ls rs : List ℕ) → Grows (walk ls rs)

module _ (step : ℕ → ℕ → State → Walk) (h : (l r : ℕ) → Grows (step l r)) where
  pub pairwise_zips : (p : Pair) → Zips step (pairwise step p)
  unfolding pairwise
  pairwise_zips p = record { first = cons; grows = grows_pairwise step h p }
    where
      cons : (l r : ℕ) (ls rs : List ℕ) (st : State) → pairwise step p (l ∷ ls) (r ∷ rs) st ≡ step l r st >>= pairwise step p ls rs
      cons l r [] rs st = refl
      cons l r (x ∷ ls) rs st = refl

  pub each_zips : Zips step (each_pair step)
  unfolding each_pair
  each_zips = record { first = λ l r ls rs st. refl; grows = grows_each step h }

-- the whole, w, over two lists, is what is left of both, begun with the words m and so many entered
pub record Rest (walk : List ℕ → List ℕ → State → Walk) (left right ls rs : List ℕ) (w : Walk) (m : List ℕ) (n : ℕ) : Type 0 where
  pub whole : w ≡ walk ls rs (state_of m n)
  pub in_left : (x : ℕ) → Memᴰ x ls → Memᴰ x left
  pub in_right : (x : ℕ) → Memᴰ x rs → Memᴰ x right

pub rest_begins : (walk : List ℕ → List ℕ → State → Walk) (left right ls rs : List ℕ) (m : List ℕ) (n : ℕ) → ls ≡ left → rs ≡ right
    → Rest walk left right ls rs (walk left right (state_of m n)) m n
rest_begins walk left right ls rs m n e f =
    record {
      whole = sym (ap₂ (λ (xs ys : List ℕ). walk xs ys (state_of m n)) e f);
      in_left = λ x h. subst (λ (xs : List ℕ). Memᴰ x xs) e h;
      in_right = λ x h. subst (λ (xs : List ℕ). Memᴰ x xs) f h;
    }

-- a turn of the loop: the next pair, and the whole as its step and the rest
pub record Turn (step : ℕ → ℕ → State → Walk) (walk : List ℕ → List ℕ → State → Walk) (left right ls rs : List ℕ) (w : Walk) (st : State) (l r : ℕ) : Type 0 where
  pub l_in : Memᴰ l left
  pub r_in : Memᴰ r right
  pub in_left : (x : ℕ) → Memᴰ x ls → Memᴰ x left
  pub in_right : (x : ℕ) → Memᴰ x rs → Memᴰ x right
  pub onward : w ≡ step l r st >>= walk ls rs

module _ {step : ℕ → ℕ → State → Walk} {walk : List ℕ → List ℕ → State → Walk} (z : Zips step walk) where
  module _ {left right ls rs : List ℕ} {w : Walk} {m : List ℕ} {n : ℕ} (h : Rest walk left right ls rs w m n) where
    pub rest_fits : PairedFits w → n ≤ max_paired
    unfolding state_of
    rest_fits f = few_now w (walk ls rs) (state_of m n) (z.grows _ _) h.whole f

    pub turn : {l r : ℕ} {xs ys : List ℕ} → ls ≡ l ∷ xs → rs ≡ r ∷ ys → Turn step walk left right xs ys w (state_of m n) l r
    turn {l} {r} {xs} {ys} e f =
        record {
          l_in = h.in_left l (subst (λ (zs : List ℕ). Memᴰ l zs) (sym e) (Memᴰ.head refl));
          r_in = h.in_right r (subst (λ (zs : List ℕ). Memᴰ r zs) (sym f) (Memᴰ.head refl));
          in_left = λ x k. h.in_left x (subst (λ (zs : List ℕ). Memᴰ x zs) (sym e) (Memᴰ.tail k));
          in_right = λ x k. h.in_right x (subst (λ (zs : List ℕ). Memᴰ x zs) (sym f) (Memᴰ.tail k));
          onward = h.whole ∙ ap₂ (λ (us vs : List ℕ). walk us vs (state_of m n)) e f ∙ z.first l r xs ys (state_of m n);
        }

  module _ {left right ls rs : List ℕ} {w : Walk} {st : State} {l r : ℕ} (t : Turn step walk left right ls rs w st l r) where
    pub step_fits : PairedFits w → PairedFits (step l r st)
    step_fits f = few_part w (step l r st) _ (z.grows _ _) t.onward f

    module _ (q : Result ℕ Unequal) (m : List ℕ) (told : Compares (step l r st) q m) where
      -- the step's failure is handed on
      pub turn_ends : (u : Unequal) (p : Result ℕ Unequal) → q ≡ Err u → p ≡ Err u → Compares w p m
      turn_ends u p e f =
          subst (λ (v : Result ℕ Unequal). Compares w v m) (sym f)
          (subst (λ (v : Walk). Compares v (Err u) m) (sym t.onward) (told_ended (step l r st) _ u m e told))

      pub turn_rest : {n : ℕ} → q ≡ Ok n → Rest walk left right ls rs w m n
      turn_rest e = record { whole = t.onward ∙ told_bind (step l r st) _ m e told; in_left = t.in_left; in_right = t.in_right }

-- ---- the ends of the lists

-- up to the shorter end
pub each_ends : (step : ℕ → ℕ → State → Walk) {left right ls rs : List ℕ} {w : Walk} {m : List ℕ} {n : ℕ} → Rest (each_pair step) left right ls rs w m n
    → (ls ≡ []) ⊎ (rs ≡ []) → Compares w (Ok n) m
unfolding each_pair
each_ends step {ls = ls} {rs = rs} {w = w} {m = m} {n = n} h e = told_over w m n (h.whole ∙ over e)
  where
    empty : (xs : List ℕ) (st : State) → each_pair step xs [] st ≡ on st
    empty [] st = refl
    empty (x ∷ xs) st = refl

    over : (ls ≡ []) ⊎ (rs ≡ []) → each_pair step ls rs (state_of m n) ≡ on (state_of m n)
    over (inl k) = rw k refl
    over (inr k) = rw k (empty ls (state_of m n))

module _ (step : ℕ → ℕ → State → Walk) (p : Pair) {left right ls rs : List ℕ} {w : Walk} {m : List ℕ} {n : ℕ} (h : Rest (pairwise step p) left right ls rs w m n) where
  pub pairwise_ends : ls ≡ [] → rs ≡ [] → Compares w (Ok n) m
  unfolding pairwise
  pairwise_ends e f = told_over w m n (h.whole ∙ rw (e, f) refl)

  -- one list is longer
  module _ (u : Unequal) (k : answer_of (Err u) ≡ neq p n) where
    longer : (xs ys : List ℕ) → (xs ≡ [] → ⊥) × (ys ≡ []) ⊎ (xs ≡ []) × (ys ≡ [] → ⊥)
        → (pairwise step p xs ys (state_of m n) ≡ ended (unequal p) (state_of m n)) ⊎ (pairwise step p xs ys (state_of m n) ≡ ended (one_longer p) (state_of m n))
    unfolding pairwise
    longer [] [] (inl h) = absurd (h.0 refl)
    longer [] [] (inr h) = absurd (h.1 refl)
    longer [] (y ∷ ys) h = inl refl
    longer (x ∷ []) [] h = inr refl
    longer (x ∷ z ∷ xs) [] h = inl refl
    longer (x ∷ xs) (y ∷ ys) (inl h) = let two : ◌≡◌ {A = List ℕ} (y ∷ ys) [] = h.1 in absurd (true≢false (cc two))
    longer (x ∷ xs) (y ∷ ys) (inr h) = let two : ◌≡◌ {A = List ℕ} (x ∷ xs) [] = h.0 in absurd (true≢false (cc two))

    pub uneven_ends : (ls ≡ [] → ⊥) × (rs ≡ []) ⊎ (ls ≡ []) × (rs ≡ [] → ⊥) → Compares w (Err u) m
    uneven_ends e = subst (λ (v : Walk). Compares v (Err u) m) (sym h.whole) (told_uneven _ p u m n k (longer ls rs e))
