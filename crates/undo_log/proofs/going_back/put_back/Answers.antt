-- `put_back` meets its contract: all behind the mark can be undone, and then the tables can be cut. Assumes nothing.
use native.Mathlib.Omega.{arith}
use Prim.Native.Nat.{◌+◌}
use mathlib.Core.Path.{ap, ◌∙◌}
use Rattle.layout.specs.Columns.{Cols, columns, write}
use Rattle.layout.specs.MarkedReading.{entry_count}
use Rattle.undo_log.proofs.Lent.{lent_facts}
use Rattle.undo_log.specs.Returning.{forgotten, rows_cut}
use Rattle.undo_log.proofs.UndoneToMark.{undid, within}
use Rattle.undo_log.proofs.GoneBack.{went_back}
use Rattle.undo_log.proofs.going_back.put_back.Goals as goal

pub cut_tables-requires-clause-store_value : goal.cut_tables-requires-clause-store_value
unfolding entry_count
cut_tables-requires-clause-store_value c =
    let b = c.args.store.now in
    let row = c.args.row in
    let h = lent_facts b c.requires.lent in
    let u = c.undo_between.new.store in
    within b h row c.requires.row_bound u _
    (undid b h row c.requires.row_bound _ _ c.number-place.ensures c.number-entries.ensures u _ c.undo_between.ensures)

pub returns : goal.returns
unfolding rows_cut entry_count
returns c =
    let b = c.args.store.now in
    let row = c.args.row in
    let h = lent_facts b c.requires.lent in
    let u = c.undo_between.new.store in
    let t = c.cut_tables.new.store in
    let d = undid b h row c.requires.row_bound _ _ c.number-place.ensures c.number-entries.ensures u _ c.undo_between.ensures in
    went_back b h row c.requires.row_bound u _ d t c.cut_tables.ensures.store_after c.cut_tables.ensures.sound_after
    c.cut_tables.ensures.marks_kept c.put.new.store
    (omega arith)
    (c.put.ensures ∙ ap (λ (X : Cols). write X 0 7 (row + 1)) (c.forget_from.ensures ∙ ap (forgotten (columns t)) c.number-place.ensures))
