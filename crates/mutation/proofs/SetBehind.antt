-- Columns that differ only in the operands, the attributes and how many there are of these keep what marks rest on. Assumes nothing.
use Prim.Native.Nat.{ℕ, ◌<◌}
use native.Mathlib.Omega.{arith}
use mathlib.Core.Bool.{false}
use mathlib.Core.List.{List}
use mathlib.Core.Path.{◌≡◌, refl, ap}
use lib.Dec.{eqb}
use lib.ListN.{get_or}
use Rattle.layout.specs.Columns.{Cols, at, counts, op_attributes, op_region_end, op_result_end, block_argument_end, block_attributes, operand_words, slot_key, slot_kind, slot_content, block_next}
use Rattle.mutation.specs.Doing.{Behind}
use Rattle.mutation.proofs.Behind.{apart}
use Rattle.mutation.proofs.Patched.{OnlyTouched, touched}

behind_untouched : (k : ℕ) → block_next < k → touched k ≡ false
unfolding touched
behind_untouched k l =
    rw (apart k l op_attributes refl, apart k l block_attributes refl, apart k l operand_words refl, apart k l slot_key refl, apart k l slot_kind refl, apart k l slot_content refl)
    refl

pub kept_behind : (C D : Cols) → OnlyTouched C D → Behind C D
unfolding touched at
kept_behind C D h =
    record {
      words = λ k l. h.same k (apart k l counts refl) (behind_untouched k l);
      marks = h.counts_same 7 (λ e. omega arith);
      regions = λ n l. word op_region_end n refl refl;
      results = λ n l. word op_result_end n refl refl;
      arguments = λ m l. word block_argument_end m refl refl;
    }
  where
    word : (k n : ℕ) → eqb k counts ≡ false → touched k ≡ false → at D k n ≡ at C k n
    word k n e u = ap (λ (xs : List ℕ). get_or xs n 0) (h.same k e u)
