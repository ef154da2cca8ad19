-- `replace_operand` meets its contract: it is refused where no replacement more can be remembered, and else written and remembered. Assumes nothing.
use native.Mathlib.Omega.{arith}
use mathlib.Core.Path.{refl, sym, ap, ◌∙◌}
use Rattle.rules.specs.Building.{set_operand}
use Rattle.rules.specs.Marks.{replaces}
use Rattle.layout.specs.Columns.{columns}
use Rattle.mutation.specs.Types.{done_of}
use Rattle.mutation.proofs.OperandDone.{operand_reached}
use Rattle.undo_log.proofs.Lent.{lent_facts}
use Rattle.undo_log.specs.EntryWrites.{with_entry}
use Rattle.undo_log.proofs.Done.{marked_full}
use Rattle.undo_log.proofs.Room.{none_fits}
use Rattle.undo_log.proofs.WasOperand.{operand_room_lem, operand_remembered}
use Rattle.undo_log.proofs.operands.replace_operand.Goals as goal

pub returns-then-is_full : goal.returns-then-is_full
unfolding done_of replaces
returns-then-is_full c =
    let a = c.args in
    let b = a.store.now in
    let h = c.requires.lent in
    let call = set_operand (record { operation = a.n; index = a.i; value = a.v }) in
    marked_full b h call _ c.requires.v_value (none_fits b h c.requires.nonzero call (sym c.is_full.ensures ∙ c.if-is_full.true) refl) refl

pub operand_was-was-requires : goal.operand_was-was-requires
operand_was-was-requires c =
    let a = c.args in
    let t = (lent_facts a.store.now c.requires.lent).tables in
    let rest = operand_reached a.store.now t a.n a.i a.v c.requires.v_value in
    record { n_bound = rest.0; i_bound = rest.1 }

pub put_operand-requires : goal.put_operand-requires
put_operand-requires c =
    let a = c.args in
    let t = (lent_facts a.store.now c.requires.lent).tables in
    let rest = operand_reached a.store.now t a.n a.i a.v c.requires.v_value in
    record { n_bound = rest.0; i_bound = rest.1 }

pub remember-requires : goal.remember-requires
remember-requires c =
    let a = c.args in
    let full = sym c.is_full.ensures ∙ c.if-is_full.false in
    let rest = operand_room_lem a.store.now c.requires.lent a.n a.i a.v c.requires.nonzero c.requires.v_value full c.put_operand.new.store
    omega arith c.put_operand.ensures in
    record { store_bound = rest.1.0; replaced_bound = rest.1.1 }

pub returns : goal.returns
unfolding done_of
returns c =
    let a = c.args in
    let full = sym c.is_full.ensures ∙ c.if-is_full.false in
    operand_remembered a.store.now c.requires.lent a.n a.i a.v c.requires.nonzero c.requires.v_value full c.put_operand.new.store
    omega arith c.put_operand.ensures
    c.remember.new.store omega arith (c.remember.ensures
    ∙ ap (with_entry (columns c.put_operand.new.store)) c.operand_was-was.ensures)
