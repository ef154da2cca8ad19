-- What is told of the steps of a walk is told of the walk: a step that goes on hands on the words and the count, and one that has ended
-- ends the walk. Assumes nothing.
use Rattle.std.specs.Prelude.{Result, Ok, Err}
use Prim.Native.Nat.{ℕ, ◌≤◌}
use native.Mathlib.Nat.{le_trans}
use mathlib.Core.Bool.{true≢false}
use mathlib.Core.List.{List}
use mathlib.Core.Logic.{◌⊎◌, inl, inr}
use mathlib.Core.Path.{◌≡◌, refl, sym, ap, subst}
use Rattle.rules.specs.Comparison.{State, Pair, unequal, one_longer, Walk, on, ended, standing, ◌>>=◌}
use Rattle.rules.specs.Answers.{Compared, Comparison, eq, neq, refused, comparison_of}
use Rattle.rules.proofs.Walking.Paired.{Grows, grows_bind}
use Rattle.equivalence.specs.Compares.{answer_of, state_of, outcome, max_paired, PairedFits}
use Rattle.equivalence.specs.Compares.{Compares}
use Rattle.equivalence.specs.Walked.{pair_of_lists, neq_of}
use Rattle.equivalence.specs.declared.types.BlockLists.{BlockLists}
use Rattle.equivalence.specs.declared.types.BlockLists.TheVariants.{InRegions, Single}
use Rattle.equivalence.specs.declared.verdicts.Unequal.{Unequal}
use Rattle.equivalence.specs.declared.verdicts.Unequal.TheVariants.{FirstNEQOps, FirstNEQRegions, FirstNEQBlocks}

abbrev paired_in_lem : Compared → ℕ
paired_in_lem (eq n) = n
paired_in_lem (neq p n) = n
paired_in_lem (refused cause) = 0

-- where the answer is equal, the walk goes on with the words and the count
pub told_on : (w : Walk) (n : ℕ) (b : List ℕ) → Compares w (Ok n) b → w ≡ on (state_of b n)
unfolding Compares outcome comparison_of standing answer_of state_of
told_on (on st) n b h = λ i. on (record { mapping = (h i).mapping; paired = paired_in_lem (h i).answer })
told_on (ended (unequal p) st) n b h = let a : neq p st.paired ≡ eq n = ap (λ (x : Comparison). x.answer) h in cc
told_on (ended (one_longer p) st) n b h = let a : neq p st.paired ≡ eq n = ap (λ (x : Comparison). x.answer) h in cc

-- where it is not, the walk has ended
pub not_equal : (u : Unequal) (n : ℕ) → eq n ≡ answer_of (Err u) → ⊥
unfolding answer_of
not_equal (FirstNEQOps l r m) n h = true≢false cc
not_equal (FirstNEQRegions l r m) n h = true≢false cc
not_equal (FirstNEQBlocks l r m) n h = true≢false cc

pub told_ended : (w : Walk) (f : State → Walk) (u : Unequal) (b : List ℕ) {q : Result ℕ Unequal} → q ≡ Err u → Compares w q b → Compares (w >>= f) (Err u) b
unfolding Compares outcome comparison_of standing
told_ended w f u b {q} e h = go w (subst (λ (r : Result ℕ Unequal). Compares w r b) e h)
  where
    go : (v : Walk) → Compares v (Err u) b → Compares (v >>= f) (Err u) b
    go (on st) k = absurd (not_equal u st.paired (ap (λ (x : Comparison). x.answer) k))
    go (ended why st) k = k

-- a failure that is handed on
pub told_same : (w : Walk) (b : List ℕ) {u : Unequal} {p : Result ℕ Unequal} → p ≡ Err u → Compares w (Err u) b → Compares w p b
told_same w b {u} {p} e h = subst (λ (q : Result ℕ Unequal). Compares w q b) (sym e) h

pub told_bind : (w : Walk) (f : State → Walk) (b : List ℕ) {q : Result ℕ Unequal} {n : ℕ} → q ≡ Ok n → Compares w q b → w >>= f ≡ f (state_of b n)
told_bind w f b {q} {n} e h = ap (λ (v : Walk). v >>= f) (told_on w n b (subst (λ (r : Result ℕ Unequal). Compares w r b) e h))

-- a walk that is over
pub told_over : (w : Walk) (b : List ℕ) (n : ℕ) → w ≡ on (state_of b n) → Compares w (Ok n) b
unfolding Compares outcome comparison_of standing answer_of state_of
told_over w b n e = rw e refl

-- unequal lengths
pub told_uneven : (w : Walk) (p : Pair) (u : Unequal) (b : List ℕ) (n : ℕ) → answer_of (Err u) ≡ neq p n
    → (w ≡ ended (unequal p) (state_of b n)) ⊎ (w ≡ ended (one_longer p) (state_of b n)) → Compares w (Err u) b
unfolding Compares outcome comparison_of standing state_of
told_uneven w p u b n a (inl e) = rw (e, a) refl
told_uneven w p u b n a (inr e) = rw (e, a) refl

pub named_neq : (x : BlockLists) (n : ℕ) → answer_of (Err (neq_of x n)) ≡ neq (pair_of_lists x) n
unfolding answer_of neq_of pair_of_lists
named_neq (InRegions l r) n = refl
named_neq (Single l r) n = refl

-- the count now, and the count of a part, is no more than the whole's
pub few_now : (w : Walk) (f : State → Walk) (st : State) → Grows f → w ≡ f st → PairedFits w → st.paired ≤ max_paired
few_now w f st g e h = le_trans (g st) (subst (λ (v : Walk). (standing v).paired ≤ max_paired) e h)

pub few_part : (w v : Walk) (f : State → Walk) → Grows f → w ≡ v >>= f → PairedFits w → PairedFits v
few_part w v f g e h = le_trans (grows_bind v f g) (subst (λ (u : Walk). (standing u).paired ≤ max_paired) e h)
