-- A word put before others of a list, which move one place on: the others are copied, and then it is written. Assumes nothing.
use Prim.Native.Nat.{ℕ, zero, suc, ◌+◌, ◌<◌}
use native.Mathlib.Numerals.{add-one}
use native.Mathlib.Omega.{arith}
use mathlib.Core.List.{List, [], ◌∷◌, ◌++◌}
use mathlib.Core.Path.{◌≡◌, refl, ap, ◌∙◌}
use Rattle.std.proofs.Common.{append_assoc}
use lib.ListN.{length, set, take, drop, length-append, length-drop}
use lib.Seq.{paste, set-append_left, length-take-le}
use Rattle.layout.specs.Columns.{pasted}

-- the last of some entries
set_last : (d : List ℕ) (n v : ℕ) → n < length d → set (take (suc n) d) n v ≡ take n d ++ (v ∷ [])
set_last [] n v h = absurd (omega (arith, h))
set_last (x ∷ xs) zero v h = refl
set_last (x ∷ xs) (suc n) v h = let l : n < length xs = omega (arith, h) in ap (λ (ys : List ℕ). x ∷ ys) (set_last xs n v l)

module _ (d : List ℕ) (from count v : ℕ) (room : from + count < length d) where
  abbrev moved : List ℕ
  moved = take count (drop from d)

  moved_length : length moved ≡ count
  moved_length = length-take-le count (drop from d) (omega (arith, length-drop from d))

  head_length : length (take (from + 1) d) ≡ from + 1
  head_length = length-take-le (from + 1) d (omega arith)

  put_first : set (take (from + 1) d) from v ≡ take from d ++ (v ∷ [])
  put_first = ap (λ (n : ℕ). set (take n d) from v) (add-one from) ∙ set_last d from v (omega arith)

  pub inserted : set (paste d (from + 1) (drop from d) count) from v ≡ pasted d from (v ∷ moved)
  inserted =
      set-append_left (take (from + 1) d ++ moved) (drop (from + 1 + count) d) from v (omega (arith, length-append (take (from + 1) d) moved, head_length))
      ∙ ap (λ (xs : List ℕ). xs ++ drop (from + 1 + count) d)
      (set-append_left (take (from + 1) d) moved from v (omega (arith, head_length)) ∙ ap (λ (xs : List ℕ). xs ++ moved) put_first ∙ append_assoc (take from d) (v ∷ []) moved)
      ∙ ap (λ (n : ℕ). (take from d ++ (v ∷ moved)) ++ drop n d) (let e : from + 1 + count ≡ from + length (v ∷ moved) = omega (arith, moved_length) in e)
