-- `undo_entry` meets its contract, sort by sort. Assumes nothing.
use mathlib.Core.Path.{ap, ap₂, subst, ◌∙◌}
use Rattle.layout.specs.Journal.{attribute_was, key_was_none}
use Rattle.layout.specs.MarkedReading.{entry_from}
use Rattle.undo_log.specs.Entries.{words_of, entry_of}
use Rattle.undo_log.specs.Undoing.{Undid}
use Rattle.undo_log.proofs.undoing.undo_entry.Goals as goal

pub returns-in-OperandWas : goal.returns-in-OperandWas
unfolding entry_of words_of entry_from
returns-in-OperandWas c =
    subst (λ e. Undid c.args.store.now c.undo_operand.new.store e c.undo_operand.result) c.in-OperandWas.ensures c.undo_operand.ensures

pub returns-in-AttributeWas : goal.returns-in-AttributeWas
unfolding entry_of words_of entry_from
returns-in-AttributeWas c =
    subst (λ e. Undid c.args.store.now c.undo_attribute.new.store e c.undo_attribute.result)
    (ap₂ attribute_was c.owner_from.ensures c.attribute_from.ensures ∙ c.in-AttributeWas.ensures)
    c.undo_attribute.ensures

pub returns-in-KeyWasNone : goal.returns-in-KeyWasNone
unfolding entry_of words_of entry_from
returns-in-KeyWasNone c =
    subst (λ e. Undid c.args.store.now c.undo_new_key.new.store e c.undo_new_key.result)
    (ap (λ w. key_was_none w c.in-KeyWasNone.key) c.owner_from-in-KeyWasNone.ensures ∙ c.in-KeyWasNone.ensures)
    c.undo_new_key.ensures
