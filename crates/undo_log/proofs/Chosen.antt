-- The row of a mark that is set. Assumes nothing.
use Prim.Native.Nat.{ℕ, ◌<◌}
use native.Mathlib.Omega.{arith}
use mathlib.Core.Bool.{Bool, true, false, cond}
use mathlib.Core.Path.{◌≡◌, refl, sym}
use borrow.Author.Tests.{ltb-true}
use lib.Dec.{ltb}
use Rattle.std.specs.Prelude.{Some, None}
use Rattle.layout.specs.Columns.{Cols}
use Rattle.layout.specs.MarkedReading.{mark_count}
use Rattle.undo_log.specs.MarkWrites.{row_of, row_found}

module _ (C : Cols) (k : ℕ) where
  found_set : (t : Bool) (i : ℕ) → ltb (row_of C k) (mark_count C) ≡ t → cond t (Some (row_of C k)) None ≡ Some i → (i ≡ row_of C k) × (i < mark_count C)
  found_set true i h e = let q : row_of C k ≡ i = cc in (sym q, omega (arith, q, ltb-true (row_of C k) (mark_count C) h))
  found_set false i h e = absurd cc

  pub row_there : (i : ℕ) → row_found C k ≡ Some i → (i ≡ row_of C k) × (i < mark_count C)
  unfolding row_found
  row_there i e = found_set (ltb (row_of C k) (mark_count C)) i refl e

  found_none : (t : Bool) → cond t (Some (row_of C k)) None ≡ None → t ≡ false
  found_none true e = absurd cc
  found_none false e = refl

  pub no_row : row_found C k ≡ None → ltb (row_of C k) (mark_count C) ≡ false
  unfolding row_found
  no_row e = found_none (ltb (row_of C k) (mark_count C)) e
