-- `undo_operand` meets its contract: the call that sets an operand refuses what can't be undone. Assumes nothing.
use mathlib.Core.Path.{sym, subst}
use Rattle.layout.specs.Journal.{operand_was}
use Rattle.undo_log.specs.Undoing.{Undid}
use Rattle.undo_log.proofs.Told.{operand_undid}
use Rattle.undo_log.proofs.undoing.undo_operand.Goals as goal

pub returns : goal.returns
returns c =
    let a = c.args in
    subst (Undid a.store.now c.set_operand.new.store (operand_was a.n a.i a.v)) (sym c.is_ok.ensures.value)
    (operand_undid a.store.now c.set_operand.new.store a.n a.i a.v c.set_operand.result c.set_operand.ensures)
