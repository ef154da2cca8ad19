-- Where no test refuses a set operand, the operation has it, and the value is there. Assumes nothing.
use Rattle.rules.specs.declared.types.Cause.{Cause}
use Prim.Native.Nat.{ℕ, ◌-◌, ◌<◌}
use Rattle.std.specs.Prelude.{Option, None}
use mathlib.Core.List.{List}
use mathlib.Core.Path.{◌≡◌, sym, ap, ◌∙◌}
use borrow.Author.Tests.{ltb-true}
use lib.Dec.{ltb}
use lib.ListN.{length}
use Rattle.rules.specs.Store.{Op, op_at}
use Rattle.rules.specs.Building.{set_operand, tests, first_failed}
use Rattle.rules.proofs.Basics.Tests.{passed}
use Rattle.rules.proofs.Soundness.Accepted.{first_failed_none}
use Rattle.layout.specs.Columns.{columns, at, op_operand_first, op_operand_end}
use Rattle.layout.specs.Reading.{op_count, value_count, store_in}
use Rattle.layout.specs.Soundness.{IsSound}
use Rattle.layout.proofs.Tabulate.{op_in_lem, value_exists_lem, op_read}
use Rattle.layout.proofs.Totals.{operands_length}
use Rattle.mutation.proofs.Facts.{shaped, laid}

-- operation n, an operand of it, and the value are there
pub record OperandThere (b : List ℕ) (n i v : ℕ) : Type 0 where
  pub op : n < op_count (columns b)
  pub value : v < value_count (columns b)
  pub operand : i < at (columns b) op_operand_end n - at (columns b) op_operand_first n

module _ (b : List ℕ) (h : IsSound b) (n i v : ℕ) where
  abbrev failing : Option Cause
  failing = first_failed (tests (store_in b) (set_operand (record { operation = n; index = i; value = v })))

  own_operands : n < op_count (columns b) → length (op_at (store_in b) n).operands ≡ at (columns b) op_operand_end n - at (columns b) op_operand_first n
  own_operands l = ap (λ (o : Op). length o.operands) (op_read (columns b) n l) ∙ operands_length (columns b) (shaped b h) (laid b h) n l

  pub indexed : n < op_count (columns b) → ltb i (length (op_at (store_in b) n).operands) ≡ ltb i (at (columns b) op_operand_end n - at (columns b) op_operand_first n)
  indexed l = ap (λ (k : ℕ). ltb i k) (own_operands l)

  pub there_operand : failing ≡ None → OperandThere b n i v
  unfolding tests
  there_operand e =
      let p = first_failed_none _ e in
      let names = passed _ p.0 in
      let l = op_in_lem (columns b) n names.0 in
      record {
        op = l;
        value = ltb-true v _ (sym (value_exists_lem (columns b) v) ∙ names.1.0);
        operand = ltb-true i _ (sym (indexed l) ∙ p.1.0);
      }
