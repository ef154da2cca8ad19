-- One child more: from an old child the next one is as before, or the new one, if it has the same owner and none came before it. So the links hold again once the last child of that owner is linked to the new one. Assumes nothing.
use Prim.Native.Nat.{ℕ, zero, suc, ◌+◌, ◌-◌, ◌<◌, ◌≤◌}
use native.Mathlib.Decide.{ℕ_discrete}
use native.Mathlib.Omega.{arith}
use mathlib.Core.Bool.{Bool, true, false, cond}
use Rattle.std.specs.Prelude.{Option, None, Some}
use mathlib.Core.Path.{◌≡◌, refl, sym, ap, ap₂, ◌∙◌}
use borrow.Author.Tests.{eqb-true, eq-eqb, ne_eqb}
use lib.Dec.{eqb}
use Rattle.layout.specs.Columns.{Cols, at}
use Rattle.layout.specs.Children.{first_word, word_from}
use Rattle.layout.specs.Soundness.{next_child}
use Rattle.layout.proofs.Linking.{LinkHolds}
use Rattle.mutation.proofs.LinksKept.{EntriesKept, first_same}

-- ---- the first entry with a word

or_else : Option ℕ → Option ℕ → Option ℕ
or_else None o = o
or_else (Some m) o = Some m

or_found : (o x : Option ℕ) → (word_from o ≡ 0 → ⊥) → word_from (or_else o x) ≡ word_from o
unfolding word_from or_else
or_found None x ne = absurd (ne refl)
or_found (Some m) x ne = refl

or_other : (o x : Option ℕ) → ((m : ℕ) → o ≡ Some m → 0 < m) → word_from o ≡ 0 → word_from (or_else o x) ≡ word_from x
unfolding word_from or_else
or_other None x f z = refl
or_other (Some m) x f z = absurd (let l = f m refl in omega arith)

module _ (C : Cols) (k w : ℕ) where
  -- where a word is found
  record Found (a n m : ℕ) : Type 0 where
    pub from : a ≤ m
    pub below : m < a + n
    pub word : at C k m ≡ w

  first_facts : (a n m : ℕ) → first_word C k w a n ≡ Some m → Found a n m
  unfolding first_word
  first_facts a zero m e = absurd (let z : ◌≡◌ {A = ℕ} 0 1 = cc in omega arith)
  first_facts a (suc n) m e = go (eqb (at C k a) w) refl e (λ q. first_facts (suc a) n m q)
    where
      go : (b : Bool) → eqb (at C k a) w ≡ b → cond b (Some a) (first_word C k w (suc a) n) ≡ Some m → (first_word C k w (suc a) n ≡ Some m → Found (suc a) n m) → Found a (suc n) m
      go true t q rest = let z : a ≡ m = cc in record { from = omega arith; below = omega arith; word = ap (at C k) (sym z) ∙ eqb-true _ w t }
      go false t q rest = let f = rest q in record { from = omega (arith, f.from); below = omega (arith, f.below); word = f.word }

  first_last : (a n : ℕ) → first_word C k w a (suc n) ≡ or_else (first_word C k w a n) (cond (eqb (at C k (a + n)) w) (Some (a + n)) None)
  unfolding first_word or_else
  first_last a zero = ap (λ (i : ℕ). cond (eqb (at C k i) w) (Some i) None) (let z : a ≡ a + 0 = omega arith in z)
  first_last a (suc n) = go (eqb (at C k a) w) (first_last (suc a) n)
    where
      go : (b : Bool) → first_word C k w (suc a) (suc n) ≡ or_else (first_word C k w (suc a) n) (cond (eqb (at C k (suc a + n)) w) (Some (suc a + n)) None)
          → cond b (Some a) (first_word C k w (suc a) (suc n)) ≡ or_else (cond b (Some a) (first_word C k w (suc a) n)) (cond (eqb (at C k (a + suc n)) w) (Some (a + suc n)) None)
      go true rest = refl
      go false rest =
          rest ∙ ap (λ (i : ℕ). or_else (first_word C k w (suc a) n) (cond (eqb (at C k i) w) (Some i) None)) (let z : suc a + n ≡ a + suc n = omega arith in z)

-- ---- the next child

-- a next child has the same owner
record NextIs (C : Cols) (k count n m : ℕ) : Type 0 where
  pub from : n < m
  pub below : m < count
  pub word : at C k m ≡ at C k n

next_facts : (C : Cols) (k count n : ℕ) → n < count → (next_child C k count n ≡ 0 → ⊥) → NextIs C k count n (next_child C k count n)
unfolding next_child word_from
next_facts C k count n l = go (first_word C k (at C k n) (n + 1) (count - (n + 1))) refl
  where
    go : (o : Option ℕ) → first_word C k (at C k n) (n + 1) (count - (n + 1)) ≡ o → (word_from o ≡ 0 → ⊥) → NextIs C k count n (word_from o)
    go None e ne = absurd (ne refl)
    go (Some m) e ne = let f = first_facts C k (at C k n) (n + 1) (count - (n + 1)) m e in record { from = omega (arith, f.from); below = omega (arith, f.below); word = f.word }

-- ---- one child more, number N, with the owner's word w

-- what is written: the child's owner, and the links; the owner's range ended at `end`
pub record ChildPut (C D : Cols) (owners links N w end : ℕ) : Type 0 where
  pub kept : EntriesKept C D owners N
  pub owner : at D owners N ≡ w
  pub last : (i : ℕ) → i < N → at C owners i ≡ w → i + 1 ≡ end → at D links i ≡ N
  pub others : (i : ℕ) → i < N → (at C owners i ≡ w → i + 1 ≡ end → ⊥) → at D links i ≡ at C links i

module _ (C D : Cols) (owners links N w end : ℕ) (p : ChildPut C D owners links N w end) where
  -- what is found among one child more
  found_more : (n : ℕ) → n < N
      → next_child D owners (N + 1) n ≡ word_from (or_else (first_word C owners (at C owners n) (n + 1) (N - (n + 1))) (cond (eqb w (at C owners n)) (Some N) None))
  unfolding next_child
  found_more n l =
      let v = at C owners n in
      let rest = N - (n + 1) in
      let z : N + 1 - (n + 1) ≡ suc rest = omega arith in
      let y : n + 1 + rest ≡ N = omega arith in
      ap₂ (λ (u k : ℕ). word_from (first_word D owners u (n + 1) k)) (p.kept n l) z
      ∙ ap word_from
      (first_last D owners v (n + 1) rest
      ∙ ap₂ (λ (o : Option ℕ) (i : ℕ). or_else o (cond (eqb (at D owners i) v) (Some i) None)) (first_same C D owners v (n + 1) rest N (omega arith) p.kept) y
      ∙ ap (λ (u : ℕ). or_else (first_word C owners v (n + 1) rest) (cond (eqb u v) (Some N) None)) p.owner)

  above : (n m : ℕ) → first_word C owners (at C owners n) (n + 1) (N - (n + 1)) ≡ Some m → 0 < m
  above n m e = omega (arith, (first_facts C owners (at C owners n) (n + 1) (N - (n + 1)) m e).from)

  next_more : (n : ℕ) → n < N → (next_child C owners N n ≡ 0 → ⊥) → next_child D owners (N + 1) n ≡ next_child C owners N n
  unfolding next_child
  next_more n l ne = found_more n l ∙ or_found _ _ ne

  next_after : (n : ℕ) → n < N → next_child C owners N n ≡ 0 → next_child D owners (N + 1) n ≡ word_from (cond (eqb w (at C owners n)) (Some N) None)
  unfolding next_child
  next_after n l z = found_more n l ∙ or_other _ _ (above n) z

  next_new : (n : ℕ) → n < N → next_child C owners N n ≡ 0 → at C owners n ≡ w → next_child D owners (N + 1) n ≡ N
  unfolding word_from
  next_new n l z e = next_after n l z ∙ ap (λ (b : Bool). word_from (cond b (Some N) None)) (eq-eqb w (at C owners n) (sym e))

  next_none : (n : ℕ) → n < N → next_child C owners N n ≡ 0 → (at C owners n ≡ w → ⊥) → next_child D owners (N + 1) n ≡ 0
  unfolding word_from
  next_none n l z ne = next_after n l z ∙ ap (λ (b : Bool). word_from (cond b (Some N) None)) (ne_eqb w (at C owners n) (λ e. ne (sym e)))

  -- an old child, whose owner's range ended at e and ends at e'
  pub old_linked : (n e e' : ℕ) → n < N → (at C owners n ≡ w → (i : ℕ) → i < N → at C owners i ≡ w → i < end) → LinkHolds (next_child C owners N n) (at C links n) e n
      → (at C owners n ≡ w → e ≡ end) → ((at C owners n ≡ w → ⊥) → e' ≡ e) → LinkHolds (next_child D owners (N + 1) n) (at D links n) e' n
  old_linked n e e' l inside h own else = go (ℕ_discrete (next_child C owners N n) 0) (ℕ_discrete (at C owners n) w)
    where
      go : Dec (next_child C owners N n ≡ 0) → Dec (at C owners n ≡ w) → LinkHolds (next_child D owners (N + 1) n) (at D links n) e' n
      go (no ne) d =
          let f = next_facts C owners N n l ne in
          let q = next_more n l ne in
          record {
            link = p.others n l (λ a b. let i = inside a _ f.below (f.word ∙ a) in omega (arith, f.from)) ∙ h.link ∙ sym q;
            last = λ z. absurd (ne (sym q ∙ z));
          }
      go (yes z) (yes a) =
          let ee = own a in
          let le = h.last z in
          record {
            link = p.last n l a (omega arith) ∙ sym (next_new n l z a);
            last = λ y. absurd (let x : N ≡ 0 = sym (next_new n l z a) ∙ y in omega arith);
          }
      go (yes z) (no ne) =
          record {
            link = p.others n l (λ a b. ne a) ∙ h.link ∙ z ∙ sym (next_none n l z ne);
            last = λ y. else ne ∙ h.last z;
          }

  pub new_linked : (e : ℕ) → at D links N ≡ 0 → e ≡ N + 1 → LinkHolds (next_child D owners (N + 1) N) (at D links N) e N
  unfolding next_child first_word word_from
  new_linked e free q =
      let z : N + 1 - (N + 1) ≡ 0 = omega arith in
      record { link = free ∙ sym (ap (λ (k : ℕ). word_from (first_word D owners (at D owners N) (N + 1) k)) z); last = λ y. q }
