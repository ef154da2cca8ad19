-- Where the ranges of owners end, once the first n children are seen: behind the last one of each owner. Assumes nothing.
use Prim.Native.Nat.{ℕ, zero, suc, ◌+◌, ◌-◌, ◌<◌, ◌≤◌}
use native.Mathlib.Decide.{ℕ_discrete}
use native.Mathlib.Omega.{arith}
use mathlib.Core.Bool.{Bool, true, false, cond}
use mathlib.Core.List.{List}
use mathlib.Core.Path.{◌≡◌, refl, ap, subst, ◌∙◌}
use borrow.Author.Tests.{le-leb, leb-true}
use lib.Dec.{leb}
use lib.ListN.{length, get_or, set, length-set}
use lib.Seq.{get_or-set_same, get_or-set_other}
use Rattle.undo_log.specs.CutWrites.{end_put, ends_of}

-- the end of the range of owner b, whose word is b + offset: behind each of its children, and no further than the last one
pub record Ended (owners : List ℕ) (offset n b end : ℕ) : Type 0 where
  pub above : (i : ℕ) → i < n → get_or owners i 0 ≡ b + offset → i < end
  pub last : (i : ℕ) → i < n → get_or owners i 0 ≡ b + offset → ((j : ℕ) → i < j → j < n → get_or owners j 0 ≡ b + offset → ⊥) → end ≡ i + 1

last_or_before : {A : Type 0} (i n : ℕ) → i < suc n → (i ≡ n → A) → (i < n → A) → A
last_or_before {A = A} i n l here before = go (ℕ_discrete i n)
  where
    go : Dec (i ≡ n) → A
    go (yes e) = here e
    go (no ne) = before (omega arith)

module _ (offset : ℕ) where
  put_length : (w n : ℕ) (ends : List ℕ) → length (end_put offset w n ends) ≡ length ends
  unfolding end_put
  put_length w n ends = go (leb offset w)
    where
      go : (t : Bool) → length (cond t (set ends (w - offset) (n + 1)) ends) ≡ length ends
      go true = length-set ends (w - offset) (n + 1)
      go false = refl

  put_own : (w n b : ℕ) (ends : List ℕ) → w ≡ b + offset → b < length ends → get_or (end_put offset w n ends) b 0 ≡ n + 1
  unfolding end_put
  put_own w n b ends e l =
      let k : w - offset ≡ b = omega arith in
      ap (λ (t : Bool). get_or (cond t (set ends (w - offset) (n + 1)) ends) b 0) (le-leb offset w (omega arith))
      ∙ ap (λ (m : ℕ). get_or (set ends m (n + 1)) b 0) k
      ∙ get_or-set_same ends b (n + 1) 0 l

  put_else : (w n b : ℕ) (ends : List ℕ) → (w ≡ b + offset → ⊥) → get_or (end_put offset w n ends) b 0 ≡ get_or ends b 0
  unfolding end_put
  put_else w n b ends ne = go (leb offset w) refl
    where
      go : (t : Bool) → leb offset w ≡ t → get_or (cond t (set ends (w - offset) (n + 1)) ends) b 0 ≡ get_or ends b 0
      go true e = get_or-set_other ends (w - offset) b (n + 1) 0 (λ q. let l = leb-true offset w e in ne (omega arith))
      go false e = refl

  module _ (owners : List ℕ) where
    pub ends_length : (n : ℕ) (ends : List ℕ) → length (ends_of owners offset n ends) ≡ length ends
    unfolding ends_of
    ends_length zero ends = refl
    ends_length (suc n) ends = put_length (get_or owners n 0) n (ends_of owners offset n ends) ∙ ends_length n ends

    pub ends_low : (n b : ℕ) (ends : List ℕ) → b < length ends → get_or ends b 0 ≡ 0 → get_or (ends_of owners offset n ends) b 0 ≤ n
    unfolding ends_of
    ends_low zero b ends l z = omega arith
    ends_low (suc n) b ends l z = go (ℕ_discrete (get_or owners n 0) (b + offset)) (ends_low n b ends l z)
      where
        old : List ℕ
        old = ends_of owners offset n ends

        go : Dec (get_or owners n 0 ≡ b + offset) → get_or old b 0 ≤ n → get_or (end_put offset (get_or owners n 0) n old) b 0 ≤ suc n
        go (yes e) low = omega (arith, put_own (get_or owners n 0) n b old e (omega (arith, ends_length n ends)))
        go (no ne) low = omega (arith, put_else (get_or owners n 0) n b old ne)

    pub ends_hold : (n b : ℕ) (ends : List ℕ) → b < length ends → Ended owners offset n b (get_or (ends_of owners offset n ends) b 0)
    unfolding ends_of
    ends_hold zero b ends l = record { above = λ i h e. absurd (let w : ⊥ = omega arith in w); last = λ i h e none. absurd (let w : ⊥ = omega arith in w) }
    ends_hold (suc n) b ends l = go (ℕ_discrete (get_or owners n 0) (b + offset)) (ends_hold n b ends l)
      where
        old : List ℕ
        old = ends_of owners offset n ends

        go : Dec (get_or owners n 0 ≡ b + offset) → Ended owners offset n b (get_or old b 0) → Ended owners offset (suc n) b (get_or (end_put offset (get_or owners n 0) n old) b 0)
        go (yes e) h =
            let new = put_own (get_or owners n 0) n b old e (omega (arith, ends_length n ends)) in
            record {
              above = λ i m q. omega (arith, new);
              last = λ i m q none. last_or_before i n m (λ k. omega (arith, new)) (λ k. absurd (none n k (omega arith) e));
            }
        go (no ne) h =
            let same = put_else (get_or owners n 0) n b old ne in
            record {
              above = λ i m q. last_or_before i n m (λ k. absurd (ne (subst (λ (x : ℕ). get_or owners x 0 ≡ b + offset) k q))) (λ k. omega (arith, same, h.above i k q));
              last = λ i m q none.
                  last_or_before i n m (λ k. absurd (ne (subst (λ (x : ℕ). get_or owners x 0 ≡ b + offset) k q)))
                  (λ k. same ∙ h.last i k q (λ j a c. none j a (omega arith)));
            }
