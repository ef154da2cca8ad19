-- `forget_from` meets its contract: what it counts is read before anything is written. Assumes nothing.
use Prim.Native.Nat.{ℕ, ◌≤◌}
use native.Mathlib.Omega.{arith}
use Rattle.rules.proofs.Keys.Fitting.{filter_most}
use Rattle.layout.specs.Columns.{Cols, columns}
use Rattle.layout.proofs.Tabulate.{length_tabulate}
use Rattle.layout.specs.Journal.{is_replaced, replaced_in}
use Rattle.layout.specs.MarkedReading.{entry_at}
use Rattle.undo_log.specs.MarkWrites.{first_entries}
use Rattle.undo_log.proofs.going_back.forget_from.Goals as goal

most : (C : Cols) (n : ℕ) → replaced_in (first_entries C n) ≤ n
unfolding replaced_in first_entries
most C n = omega (arith, filter_most is_replaced (first_entries C n), length_tabulate n (entry_at C))

pub overflow_cast-replaced : goal.overflow_cast-replaced
overflow_cast-replaced c =
    omega (arith, c.replaced_before-replaced.ensures, most (columns c.args.store.now) c.args.n, c.requires)
