-- A list written into another entry by entry: one turn, the length kept, and the end. Assumes nothing.
use Prim.Native.Nat.{ℕ, ◌+◌, ◌≤◌, ◌<◌}
use native.Mathlib.Numerals.{add-one}
use native.Mathlib.Omega.{arith}
use mathlib.Core.List.{List, ◌++◌}
use mathlib.Core.Path.{◌≡◌, sym, ap, ◌∙◌}
use lib.ListN.{length, get_or, set, take, drop}
use lib.Seq.{paste, paste-suc, length-paste, take-length}
use Rattle.layout.specs.Columns.{pasted}

module _ (d vs : List ℕ) (at : ℕ) (room : at + length vs ≤ length d) (to : List ℕ) (j : ℕ) (so_far : to ≡ paste d at vs j) where
  pub copy_turn : j < length vs → (v : ℕ) → v ≡ get_or vs j 0 → set to (at + j) v ≡ paste d at vs (j + 1)
  copy_turn l v e =
      ap (λ (xs : List ℕ). set xs (at + j) v) so_far
      ∙ ap (λ (x : ℕ). set (paste d at vs j) (at + j) x) e
      ∙ paste-suc d at vs j 0 (omega arith) l
      ∙ ap (λ (k : ℕ). paste d at vs k) (sym (add-one j))

  pub copy_length : j ≤ length vs → length to ≡ length d
  copy_length l = ap length so_far ∙ length-paste d at vs j (omega arith) l

  pub copy_done : j ≡ length vs → to ≡ pasted d at vs
  copy_done e =
      so_far ∙ ap (λ (k : ℕ). paste d at vs k) e
      ∙ ap (λ (xs : List ℕ). take at d ++ xs ++ drop (at + length vs) d) (take-length vs)
