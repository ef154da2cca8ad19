-- Bytes written one piece behind the other are written as one piece: what stands before and behind them is what was there. Assumes nothing.
use Prim.Native.Nat.{ℕ, ◌+◌, ◌≤◌}
use native.Mathlib.Nat.{add-zero}
use native.Mathlib.Omega.{arith}
use mathlib.Core.List.{List, [], ◌++◌, append_assoc, append-nil}
use mathlib.Core.Path.{◌≡◌, refl, sym, ap, ap₂, subst, ◌∙◌}
use lib.ListN.{length, take, drop, length-append, take-append-drop}
use lib.Seq.{take_at, drop-append-add, drop-drop, length-take-le}
use Rattle.layout.specs.Columns.{pasted}
use Rattle.lines.specs.Writing.{WritesAt}
use Rattle.lines.specs.Writing.{Writes, HasRoom}
use Rattle.lines.specs.declared.writing.LineWriter.{LineWriter}

-- what stands behind the first m entries
drop_behind : (xs ys : List ℕ) (m n : ℕ) → length xs ≡ m → drop (m + n) (xs ++ ys) ≡ drop n ys
drop_behind xs ys m n e = subst (λ (k : ℕ). drop (k + n) (xs ++ ys) ≡ drop n ys) e (drop-append-add xs ys n)

module _ (l : List ℕ) (at : ℕ) (xs ys : List ℕ) (room : at + length xs ≤ length l) where
  front : length (take at l ++ xs) ≡ at + length xs
  front = length-append (take at l) xs ∙ ap (λ (k : ℕ). k + length xs) (length-take-le at l (omega arith))

  pub pasted_twice : pasted (pasted l at xs) (at + length xs) ys ≡ pasted l at (xs ++ ys)
  pasted_twice =
      let more : at + length xs + length ys ≡ at + length (xs ++ ys) = omega (arith, length-append xs ys) in
      ap₂ (λ (a b : List ℕ). a ++ ys ++ b)
      (take_at (take at l ++ xs) (drop (at + length xs) l) (at + length xs) front)
      (drop_behind (take at l ++ xs) (drop (at + length xs) l) (at + length xs) (length ys) front
      ∙ drop-drop (length ys) (at + length xs) l
      ∙ ap (λ (k : ℕ). drop k l) more)
      ∙ ap (λ (a : List ℕ). a ++ drop (at + length (xs ++ ys)) l) (append_assoc (take at l) xs ys)

-- one piece, and then one from its end on
pub then : {m n : ℕ} {xs ys : List ℕ} {a b c : LineWriter} → Writes m xs a b → Writes n ys b c → HasRoom m a → Writes (m + n) (xs ++ ys) a c
then {m} {n} {xs} {ys} {a} {b} {c} w v room =
    let f : length xs ≤ m = w.wrote.short in
    let g : length ys ≤ n = v.wrote.short in
    let e : b.at ≡ a.at + length xs = w.wrote.behind in
    let h : c.at ≡ b.at + length ys = v.wrote.behind in
    let long : length (xs ++ ys) ≡ length xs + length ys = length-append xs ys in
    record {
      same_reference = v.same_reference ∙ w.same_reference;
      long = v.long ∙ w.long;
      wrote =
          record {
            written =
                v.wrote.written
                ∙ ap₂ (λ (l : List ℕ) (k : ℕ). pasted l k ys) w.wrote.written e
                ∙ pasted_twice a.lent.now a.at xs ys (omega arith);
            behind = omega arith;
            short = omega arith;
          };
    }

-- the same bytes, said in another way
pub said : {m : ℕ} {xs ys : List ℕ} {a b : LineWriter} → Writes m xs a b → xs ≡ ys → Writes m ys a b
said {m} {xs} {ys} {a} {b} w e = subst (λ (bytes : List ℕ). Writes m bytes a b) e w

-- within a larger number
pub within : {m n : ℕ} {bytes : List ℕ} {a b : LineWriter} → Writes m bytes a b → m ≤ n → Writes n bytes a b
within {m} {n} {bytes} {a} {b} w h =
    let f : length bytes ≤ m = w.wrote.short in
    record {
      same_reference = w.same_reference;
      long = w.long;
      wrote = record { written = w.wrote.written; behind = w.wrote.behind; short = omega arith };
    }

-- and no more than they are
pub exactly : {m : ℕ} {bytes : List ℕ} {a b : LineWriter} → Writes m bytes a b → Writes (length bytes) bytes a b
exactly {m} {bytes} {a} {b} w =
    record {
      same_reference = w.same_reference;
      long = w.long;
      wrote = record { written = w.wrote.written; behind = w.wrote.behind; short = omega arith };
    }

-- nothing: every byte is as it was
pasted_none : (l : List ℕ) (n : ℕ) → l ≡ pasted l n []
pasted_none l n =
    sym (take-append-drop n l)
    ∙ ap₂ (λ (xs : List ℕ) (k : ℕ). xs ++ drop k l) (sym (append-nil (take n l))) (sym (add-zero n))

pub nothing : (most : ℕ) (a : LineWriter) → Writes most [] a a
nothing most a =
    record {
      same_reference = refl;
      long = refl;
      wrote = record { written = pasted_none a.lent.now a.at; behind = sym (add-zero a.at); short = omega arith };
    }

-- what a writer that begins with the first of these bytes leaves of them
pub from_start : {most r : ℕ} {bytes l k : List ℕ} {a b : LineWriter} → a.lent.now ≡ l → a.at ≡ 0 → b.lent.now ≡ k → r ≡ b.at
    → Writes most bytes a b → WritesAt most l k 0 bytes r
from_start {most} {r} {bytes} {l} {k} e f g h w =
    record {
      written = sym g ∙ w.wrote.written ∙ ap₂ (λ (xs : List ℕ) (n : ℕ). pasted xs n bytes) e f;
      behind = h ∙ w.wrote.behind ∙ ap (λ (n : ℕ). n + length bytes) f;
      short = w.wrote.short;
    }
