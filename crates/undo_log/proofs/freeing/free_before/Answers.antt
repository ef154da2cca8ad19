-- `free_before` meets its contract: what it counts with is read before anything is written. Assumes nothing.
use Prim.Native.Nat.{◌≤◌}
use mathlib.Core.Path.{sym, subst}
use Rattle.layout.specs.Columns.{Cols, at, write_range}
use Rattle.layout.specs.MarkedReading.{mark_count}
use Rattle.undo_log.specs.MarkWrites.{copied, entries_back, SetFrom}
use Rattle.undo_log.proofs.freeing.free_before.Goals as goal

pub place_back-requires : goal.place_back-requires
unfolding mark_count entries_back copied write_range at
place_back-requires c =
    let a = c.args in
    let rest = subst (λ (X : Cols). (mark_count X ≤ 8) × SetFrom X a.n) (sym c.move_entries.ensures)
    (c.requires.few, c.requires.later) in
    record { store_bound = rest.0; set_from = rest.1 }
