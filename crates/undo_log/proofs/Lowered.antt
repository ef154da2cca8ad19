-- Each mark's place lowered, one after the other. Assumes nothing.
use Prim.Native.Nat.{ℕ, ◌+◌, ◌-◌, ◌<◌, ◌≤◌}
use native.Mathlib.Nat.{zero-add}
use native.Mathlib.Omega.{arith}
use mathlib.Core.List.{List}
use mathlib.Core.Path.{◌≡◌, sym, ap, ◌∙◌}
use lib.ListN.{length}
use Rattle.layout.specs.Columns.{Cols, at, write, mark_place}
use Rattle.layout.specs.Reading.{tabulate}
use Rattle.layout.proofs.Laid.{Shaped}
use Rattle.layout.proofs.Tabulate.{length_tabulate, get_d_tabulate}
use Rattle.layout.specs.MarkedReading.{mark_count}
use Rattle.undo_log.specs.MarkWrites.{places_back}
use Rattle.undo_log.proofs.Copies.{partly, run_behind, run_turn, run_ends}

module _ (C : Cols) (n : ℕ) where
  abbrev lower : List ℕ
  lower = tabulate (mark_count C) (λ (i : ℕ). at C mark_place i - n)

  -- the first i are lowered
  abbrev pub lowering : ℕ → Cols
  lowering i = partly C mark_place 0 lower i

  module _ (shaped : Shaped C) (few : mark_count C ≤ 8) where
    many : length lower ≡ mark_count C
    many = length_tabulate (mark_count C) (λ (i : ℕ). at C mark_place i - n)

    pub lower_word : (i : ℕ) → i < mark_count C → at (lowering i) mark_place i ≡ at C mark_place i
    lower_word i l = run_behind C mark_place 0 lower shaped (omega (arith, many)) i mark_place i (omega (arith, many)) (λ e. omega arith)

    pub lower_turn : (i : ℕ) → i < mark_count C → write (lowering i) mark_place i (at (lowering i) mark_place i - n) ≡ lowering (i + 1)
    lower_turn i l =
        ap (λ (x : ℕ). write (lowering i) mark_place x (at (lowering i) mark_place i - n)) (sym (zero-add i))
        ∙ run_turn C mark_place 0 lower shaped (omega (arith, many)) i _ (omega (arith, many))
        (ap (λ (x : ℕ). x - n) (lower_word i l) ∙ sym (get_d_tabulate (mark_count C) (λ (m : ℕ). at C mark_place m - n) i 0 l))

    pub lower_ends : (i : ℕ) → i ≡ mark_count C → lowering i ≡ places_back C n
    unfolding places_back
    lower_ends i e = run_ends C mark_place 0 lower shaped (omega (arith, many)) i (omega (arith, many))
