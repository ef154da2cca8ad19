-- What a sound buffer gives: its columns have their lengths, are laid out, and are read as a sound store; so the
-- totals can be read off its counts. Assumes nothing.
use Prim.Native.Nat.{ℕ}
use mathlib.Core.Path.{◌≡◌}
use mathlib.Core.List.{List}
use Rattle.rules.specs.Store.{operand_total, successor_total, attribute_total}
use Rattle.layout.specs.Columns.{columns}
use Rattle.layout.specs.Reading.{operand_count, successor_count, attribute_count, store_in}
use Rattle.layout.specs.Soundness.{IsSound}
use Rattle.layout.proofs.Laid.{Shaped, Laid, Counts, laid_facts}
use Rattle.layout.proofs.Buffer.{columns_shaped}
use Rattle.layout.proofs.Totals.{operand_total_lem, successor_total_lem, attribute_total_lem}

module _ (b : List ℕ) (h : IsSound b) where
  pub shaped : Shaped (columns b)
  shaped = columns_shaped b h.sized

  pub laid : Laid (columns b)
  laid = laid_facts (columns b) h.laid

  pub counts : Counts (columns b)
  counts = laid.counts

  pub operands_counted : operand_total (store_in b) ≡ operand_count (columns b)
  operands_counted = operand_total_lem (columns b) shaped laid

  pub successors_counted : successor_total (store_in b) ≡ successor_count (columns b)
  successors_counted = successor_total_lem (columns b) shaped laid

  pub attributes_counted : attribute_total (store_in b) ≡ attribute_count (columns b)
  attributes_counted = attribute_total_lem (columns b) laid
