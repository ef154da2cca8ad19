-- `undo_attribute` meets its contract: where the key is there, the call that sets an attribute refuses only a kind that is too high. Assumes nothing.
use mathlib.Core.Path.{subst, sym, ◌∙◌}
use Rattle.layout.specs.Journal.{attribute_was}
use Rattle.undo_log.specs.Undoing.{Undid}
use Rattle.undo_log.proofs.Told.{undid_not, key_lacks, attribute_undid}
use Rattle.undo_log.proofs.undoing.undo_attribute.Goals as goal

pub returns-then-has_key : goal.returns-then-has_key
returns-then-has_key c =
    let a = c.args in
    let w = a.owner in
    let t = a.attribute in
    subst (Undid a.store.now c.set_attribute.new.store (attribute_was w t)) (sym c.is_ok.ensures.value)
    (attribute_undid a.store.now w t (sym c.has_key.ensures ∙ c.if-has_key.true) c.set_attribute.new.store c.set_attribute.result c.set_attribute.ensures)

pub returns-else-has_key : goal.returns-else-has_key
returns-else-has_key c =
    let a = c.args in
    let w = a.owner in
    let t = a.attribute in
    subst (Undid a.store.now a.store.now (attribute_was w t)) (sym c.if-has_key.false)
    (undid_not a.store.now c.requires (attribute_was w t) (key_lacks a.store.now w t (sym c.has_key.ensures ∙ c.if-has_key.false)))
