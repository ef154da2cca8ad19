-- Children gone through from the last to the first: the first child from each number on with each owner is known by then, so the link of the
-- child before is tested against the next one. Assumes nothing.
use Prim.Native.Nat.{ℕ, ◌+◌, ◌-◌, ◌<◌, ◌≤◌}
use native.Mathlib.Decide.{ℕ_discrete}
use native.Mathlib.Omega.{arith}
use mathlib.Core.Bool.{Bool, true, false}
use mathlib.Core.List.{List}
use mathlib.Core.Path.{◌≡◌, sym, ap, ap₂, subst, ◌∙◌}
use lib.ListN.{length, get_or, set, length-set}
use lib.Seq.{get_or-set_same, get_or-set_other}
use Rattle.rules.specs.Lists.{all_below}
use Rattle.rules.proofs.Basics.Tests.{all_below_of}
use Rattle.layout.specs.Columns.{Cols, at}
use Rattle.layout.specs.Children.{first_word, word_from}
use Rattle.layout.specs.Soundness.{next_child}
use Rattle.layout.proofs.Scans.{below_fails}
use Rattle.layout.proofs.Finds.{word_none, word_here, word_next}

-- the first child from n on with each word
module _ (C : Cols) (owners count : ℕ) where
  abbrev Firsts : List ℕ → ℕ → Type 0
  Firsts firsts n = (w : ℕ) → w < length firsts → get_or firsts w 0 ≡ word_from (first_word C owners w n (count - n))

  firsts_none : (firsts : List ℕ) → ((w : ℕ) → get_or firsts w 0 ≡ 0) → Firsts firsts count
  unfolding word_from
  firsts_none firsts z w l = z w ∙ sym (ap word_from (word_none C owners w count count (omega arith)))

  firsts_next : (firsts : List ℕ) (n : ℕ) → n < count → Firsts firsts (n + 1) → Firsts (set firsts (at C owners n) n) n
  unfolding word_from
  firsts_next firsts n l known w lw = go (ℕ_discrete (at C owners n) w)
    where
      go : Dec (at C owners n ≡ w) → get_or (set firsts (at C owners n) n) w 0 ≡ word_from (first_word C owners w n (count - n))
      go (yes e) =
          ap (λ (i : ℕ). get_or (set firsts i n) w 0) e ∙ get_or-set_same firsts w n 0 (rw length-set at lw)
          ∙ sym (ap word_from (word_here C owners w n count l e))
      go (no ne) =
          get_or-set_other firsts (at C owners n) w n 0 (λ q. ne (sym q)) ∙ known w (rw length-set at lw)
          ∙ sym (ap word_from (word_next C owners w n count l ne))

-- the children from `left` on have passed the test; there are at most `most`, and their owners' words are below `size`
pub record Going (C : Cols) (owners count most size : ℕ) (test : ℕ → Bool) (firsts : List ℕ) (left : ℕ) : Type 0 where
  pub few : count ≤ most
  pub words : (i : ℕ) → i < count → at C owners i < size
  pub low : left ≤ count
  pub sized : length firsts ≡ size
  pub known : Firsts C owners count firsts left
  pub passed : (i : ℕ) → left ≤ i → i < count → test i ≡ true

module _ {C : Cols} {owners count most size : ℕ} {test : ℕ → Bool} {firsts : List ℕ} {left : ℕ} where
  pub going_starts : count ≤ most → ((i : ℕ) → i < count → at C owners i < size) → left ≡ count → length firsts ≡ size → ((w : ℕ) → get_or firsts w 0 ≡ 0)
      → Going C owners count most size test firsts left
  going_starts few words e sized z =
      record {
        few = few;
        words = words;
        low = omega arith;
        sized = sized;
        known = subst (Firsts C owners count firsts) (sym e) (firsts_none C owners count firsts z);
        passed = λ i l h. absurd (let w : ⊥ = omega arith in w);
      }

-- the child before `left`
module _ {C : Cols} {owners count most size : ℕ} {test : ℕ → Bool} {firsts : List ℕ} {left : ℕ} (g : Going C owners count most size test firsts left) (l : 0 < left) where
  pub going_word : {w : ℕ} → w ≡ at C owners (left - 1) → w < size
  going_word e = omega (arith, e, g.words (left - 1) (omega (arith, g.low)))

  -- a test by its owner's word, and by the next child that is known for that word, is the child's
  pub going_tested : (f : ℕ → ℕ → Bool) {w : ℕ} {t : Bool} → w ≡ at C owners (left - 1)
      → test (left - 1) ≡ f (at C owners (left - 1)) (next_child C owners count (left - 1)) → t ≡ f w (get_or firsts w 0) → t ≡ test (left - 1)
  unfolding next_child
  going_tested f {w = w} e h q =
      let z : left - 1 + 1 ≡ left = omega arith in
      let next : get_or firsts w 0 ≡ next_child C owners count (left - 1) =
      g.known w (omega (arith, g.sized, going_word e)) ∙ ap₂ (λ (v a : ℕ). word_from (first_word C owners v a (count - a))) e (sym z) in
      q ∙ ap₂ f e next ∙ sym h

  pub going_fails : test (left - 1) ≡ false → false ≡ all_below count test
  going_fails h = sym (below_fails test count (left - 1) (omega (arith, g.low)) h)

  pub going_on : {w : ℕ} → w ≡ at C owners (left - 1) → test (left - 1) ≡ true → Going C owners count most size test (set firsts w (left - 1)) (left - 1)
  going_on {w = w} q t =
      let z : left ≡ left - 1 + 1 = omega arith in
      record {
        few = g.few;
        words = g.words;
        low = omega (arith, g.low);
        sized = length-set firsts w (left - 1) ∙ g.sized;
        known =
            subst (λ (v : ℕ). Firsts C owners count (set firsts v (left - 1)) (left - 1)) (sym q)
            (firsts_next C owners count firsts (left - 1) (omega (arith, g.low)) (subst (Firsts C owners count firsts) z g.known));
        passed = λ i a b. go i a b (ℕ_discrete i (left - 1));
      }
    where
      go : (i : ℕ) → left - 1 ≤ i → i < count → Dec (i ≡ left - 1) → test i ≡ true
      go i a b (yes k) = subst (λ (j : ℕ). test j ≡ true) (sym k) t
      go i a b (no ne) = g.passed i (omega arith) b

pub going_done : {C : Cols} {owners count most size : ℕ} {test : ℕ → Bool} {firsts : List ℕ} {left : ℕ} → Going C owners count most size test firsts left
    → left ≡ 0 → true ≡ all_below count test
going_done {count = count} {test = test} g z = sym (all_below_of count test (λ i l. g.passed i (omega arith) l))
