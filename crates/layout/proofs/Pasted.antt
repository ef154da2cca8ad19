-- A list with another written into it: it is as long as before, holds the written entries in their place, and elsewhere what it held. Assumes nothing.
use Prim.Native.Nat.{ℕ, ◌+◌, ◌-◌, ◌<◌, ◌≤◌}
use native.Mathlib.Omega.{arith}
use mathlib.Core.List.{List, ◌++◌}
use mathlib.Core.Path.{◌≡◌, sym, ap, subst, ◌∙◌}
use lib.ListN.{length, get_or, take, drop, length-append, length-take, length-drop, get_or-append}
use lib.Seq.{length-take-le, get_or-take, get_or-drop, get_or-append-add, ext_get_or}
use Rattle.layout.specs.Columns.{pasted}
use Rattle.layout.specs.Reading.{slice}
use Rattle.layout.proofs.Scans.{slice_length, slice_at}

-- what stands behind the first m entries
pub get_d_behind : {A : Type 0} (xs ys : List A) (m n : ℕ) (d : A) → length xs ≡ m → get_or (xs ++ ys) (m + n) d ≡ get_or ys n d
get_d_behind xs ys m n d e = subst (λ (k : ℕ). get_or (xs ++ ys) (k + n) d ≡ get_or ys n d) e (get_or-append-add xs ys n d)

module _ (l : List ℕ) (n : ℕ) (vs : List ℕ) (fits : n + length vs ≤ length l) where
  pub pasted_length : length (pasted l n vs) ≡ length l
  pasted_length = simp (length-append, length-take, length-drop) (omega arith)

  head_length : length (take n l ++ vs) ≡ n + length vs
  head_length = simp (length-append, length-take) (omega arith)

  pub pasted_old : (i : ℕ) → i < n → get_or (pasted l n vs) i 0 ≡ get_or l i 0
  pasted_old i h =
      get_or-append (take n l ++ vs) (drop (n + length vs) l) 0 i (omega (arith, head_length))
      ∙ get_or-append (take n l) vs 0 i (omega (arith, length-take-le n l (omega arith)))
      ∙ get_or-take n l i 0 h

  pub pasted_new : (i : ℕ) → i < length vs → get_or (pasted l n vs) (n + i) 0 ≡ get_or vs i 0
  pasted_new i h =
      get_or-append (take n l ++ vs) (drop (n + length vs) l) 0 (n + i) (omega (arith, head_length))
      ∙ get_d_behind (take n l) vs n i 0 (length-take-le n l (omega arith))

  pub pasted_past : (i : ℕ) → n + length vs ≤ i → get_or (pasted l n vs) i 0 ≡ get_or l i 0
  pasted_past i h =
      let e : i ≡ n + length vs + (i - (n + length vs)) = omega arith in
      ap (λ (k : ℕ). get_or (pasted l n vs) k 0) e
      ∙ get_d_behind (take n l ++ vs) (drop (n + length vs) l) (n + length vs) _ 0 head_length
      ∙ get_or-drop (n + length vs) l _ 0 ∙ ap (λ (k : ℕ). get_or l k 0) (sym e)

  pub slice_old : (a e : ℕ) → e ≤ n → slice (pasted l n vs) a e ≡ slice l a e
  slice_old a e h =
      let long = slice_length (pasted l n vs) a e (omega (arith, pasted_length)) in
      ext_get_or 0 _ _ (long ∙ sym (slice_length l a e (omega arith)))
      (λ i b. let c : i < e - a = omega (arith, long) in slice_at (pasted l n vs) a e i c ∙ pasted_old (a + i) (omega arith) ∙ sym (slice_at l a e i c))

  pub slice_new : slice (pasted l n vs) n (n + length vs) ≡ vs
  slice_new =
      let long : length (slice (pasted l n vs) n (n + length vs)) ≡ length vs = slice_length (pasted l n vs) n (n + length vs) (omega (arith, pasted_length)) ∙ omega arith in
      ext_get_or 0 _ _ long (λ i b. slice_at (pasted l n vs) n (n + length vs) i (omega (arith, long)) ∙ pasted_new i (omega (arith, long)))
