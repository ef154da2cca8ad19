-- The digits of a number: written from the last down they stand as the rules have them, and there are as many as its tenths can be taken. Assumes nothing.
use Prim.Native.Nat.{ℕ, zero, suc, ◌+◌, ◌-◌, ◌*◌, ◌/◌, ◌%◌, ◌^◌, ◌≤◌, ◌<◌}
use native.Mathlib.Nat.{add-zero, pow-suc, not-suc-le-zero}
use native.Mathlib.Omega.{arith}
use mathlib.Core.Bool.{Bool, true, false, cond}
use mathlib.Core.List.{List, [], ◌∷◌, ◌++◌, append_assoc}
use mathlib.Core.Path.{◌≡◌, refl, sym, ap, ap₂, subst, ◌∙◌}
use lib.Dec.{ltb}
use lib.ListN.{length, set, take, drop, length-append}
use lib.Seq.{append_snoc}
use borrow.Author.Tests.{lt-ltb, le-ltb}
use Rattle.rules.specs.Bytes.{digit, last_digits, digit_count, decimal}
use Rattle.layout.specs.Columns.{pasted}
use Rattle.layout.proofs.Pasted.{pasted_length}
use Rattle.std.specs.Borrow.{MutBor}
use Rattle.lines.specs.Writing.{HasRoom, Writes}
use Rattle.lines.specs.declared.writing.LineWriter.{LineWriter}
use Rattle.lines.proofs.Joined.{within}

pub digits_length : (b k n : ℕ) → length (last_digits b k n) ≡ k
unfolding last_digits
digits_length b zero n = refl
digits_length b (suc k) n = omega (arith, length-append (last_digits b k (n / b)) (digit (n % b) ∷ []), digits_length b k (n / b))

-- ---- written from the last down

-- one more in front of what was written
set_before : (l ys : List ℕ) (n d : ℕ) → n < length l → set (take (suc n) l ++ ys) n d ≡ take n l ++ d ∷ ys
set_before [] ys n d h = absurd (not-suc-le-zero h)
set_before (x ∷ l) ys zero d h = refl
set_before (x ∷ l) ys (suc n) d h =
    let less : n < length l = omega arith in
    ap (λ (xs : List ℕ). x ∷ xs) (set_before l ys n d less)

pasted_before : (l ys : List ℕ) (n d : ℕ) → n < length l → set (pasted l (suc n) ys) n d ≡ pasted l n (d ∷ ys)
pasted_before l ys n d h =
    let e : suc n + length ys ≡ n + length (d ∷ ys) = omega arith in
    ap (λ (xs : List ℕ). set xs n d) (append_assoc (take (suc n) l) ys (drop (suc n + length ys) l))
    ∙ set_before l (ys ++ drop (suc n + length ys) l) n d h
    ∙ ap (λ (k : ℕ). take n l ++ d ∷ (ys ++ drop k l)) e
    ∙ sym (append_assoc (take n l) (d ∷ ys) (drop (n + length (d ∷ ys)) l))

-- so many digits are left to write, of `rest`; the others stand in their places
pub record Filling (l : List ℕ) (at b count n : ℕ) (out : List ℕ) (rest left : ℕ) : Type 0 where
  pub done : List ℕ
  pub stands : out ≡ pasted l (at + left) done
  pub digits : last_digits b count n ≡ last_digits b left rest ++ done
  pub whole : left + length done ≡ count

module _ (l : List ℕ) (at b count n : ℕ) where
  module _ (room : at + count ≤ length l) (out : List ℕ) (rest : ℕ) where
    one_less : (k : ℕ) → Filling l at b count n out rest (suc k) → Filling l at b count n (set out (at + k) (digit (rest % b))) (rest / b) k
    unfolding last_digits
    one_less k f =
        let w : suc k + length f.done ≡ count = f.whole in
        let e : at + suc k ≡ suc (at + k) = omega arith in
        let d = digit (rest % b) in
        record {
          done = d ∷ f.done;
          stands =
              ap (λ (xs : List ℕ). set xs (at + k) d) (f.stands ∙ ap (λ (m : ℕ). pasted l m f.done) e)
              ∙ pasted_before l f.done (at + k) d (omega arith);
          digits = f.digits ∙ append_snoc (last_digits b k (rest / b)) d f.done;
          whole = omega arith;
        }

    pub filling_turn : (left : ℕ) → 0 < left → Filling l at b count n out rest left → (d : ℕ) → d ≡ digit (rest % b)
        → Filling l at b count n (set out (at + (left - 1)) d) (rest / b) (left - 1)
    filling_turn left h f d e =
        let s : left ≡ suc (left - 1) = omega arith in
        subst (λ (x : ℕ). Filling l at b count n (set out (at + (left - 1)) x) (rest / b) (left - 1)) (sym e)
        (one_less (left - 1) (subst (λ (k : ℕ). Filling l at b count n out rest k) s f))

    all_filled : (left : ℕ) → left ≡ 0 → Filling l at b count n out rest left → out ≡ pasted l at (last_digits b count n)
    unfolding last_digits
    all_filled left z f =
        let g : Filling l at b count n out rest 0 = subst (λ (k : ℕ). Filling l at b count n out rest k) z f in
        g.stands ∙ ap₂ (λ (k : ℕ) (xs : List ℕ). pasted l k xs) (add-zero at) (sym g.digits)

-- none is left, and the writer goes on behind them
module _ (a : LineWriter) (b count n : ℕ) (room : HasRoom count a) (lent : MutBor (List ℕ)) (same : lent.ghost_name ≡ a.lent.ghost_name) (rest left : ℕ) where
  pub filling_ends : left ≡ 0 → Filling a.lent.now a.at b count n lent.now rest left → Writes count (last_digits b count n) a (record { lent = lent; at = a.at + count })
  filling_ends z f =
      let e = digits_length b count n in
      let w = all_filled a.lent.now a.at b count n room lent.now rest left z f in
      record {
        same_reference = same;
        long = ap length w ∙ pasted_length a.lent.now a.at (last_digits b count n) (omega (arith, e));
        wrote = record { written = w; behind = ap (λ (k : ℕ). a.at + k) (sym e); short = omega (arith, e) };
      }

-- ---- how many there are

pub no_tenths : (n m : ℕ) → n < 10 → digit_count (suc m) n ≡ 1
unfolding digit_count
no_tenths n m h = ap (λ (q : Bool). cond q 1 (suc (digit_count m (n / 10)))) (lt-ltb n 10 h)

ten_power : (k : ℕ) → 1 ≤ 10 ^ k
ten_power zero = omega arith
ten_power (suc k) = omega (arith, pow-suc 10 k, ten_power k)

-- a number between two powers of ten that follow each other
pub between_powers : (k n m : ℕ) → 10 ^ k ≤ n → n < 10 * 10 ^ k → k < m → digit_count m n ≡ k + 1
unfolding digit_count
between_powers k n zero l h b = absurd (omega arith)
between_powers zero n (suc m) l h b = no_tenths n m (omega arith)
between_powers (suc k) n (suc m) l h b =
    let p : 10 ^ suc k ≡ 10 ^ k * 10 = pow-suc 10 k in
    let o : 1 ≤ 10 ^ k = ten_power k in
    let i = between_powers k (n / 10) m (omega arith) (omega arith) (omega arith) in
    ap (λ (q : Bool). cond q 1 (suc (digit_count m (n / 10)))) (le-ltb n 10 (omega arith)) ∙ omega arith

few_digits : (k n : ℕ) → digit_count k n ≤ k
unfolding digit_count
few_digits zero n = omega arith
few_digits (suc k) n = go (ltb n 10) (few_digits k (n / 10))
  where
    go : (q : Bool) → digit_count k (n / 10) ≤ k → cond q 1 (suc (digit_count k (n / 10))) ≤ suc k
    go true h = omega arith
    go false h = omega arith

pub counted_digits : (n : ℕ) {count : ℕ} {a b : LineWriter} → Writes count (last_digits 10 count n) a b → count ≡ digit_count 10 n → Writes 10 (decimal n) a b
unfolding decimal
counted_digits n {count} {a} {b} w e =
    within (subst (λ (k : ℕ). Writes k (last_digits 10 k n) a b) e w) (few_digits 10 n)

pub at_most_ten : (n count : ℕ) → count ≡ digit_count 10 n → count ≤ 10
at_most_ten n count e = omega (arith, few_digits 10 n)
