-- `lone_extent` meets its contract: its values are those of its row. Assumes nothing.
use Prim.Native.Nat.{ℕ}
use mathlib.Core.Path.{ap}
use Rattle.fragments.proofs.ByRows.{row_count}
use Rattle.keys.specs.Extents.{extent_means, of_numbers}
use Rattle.keys.proofs.counting.lone_extent.Goals as goal

pub returns : goal.returns
unfolding extent_means
returns c = ap (λ (values : ℕ). of_numbers c.args.bytes values 0 1 0) (row_count c.op_row.ensures)
