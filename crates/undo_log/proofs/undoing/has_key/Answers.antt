-- `has_key` meets its contract: it makes both tests, in their order. Assumes nothing.
use mathlib.Core.Path.{sym, ◌∙◌}
use Rattle.undo_log.proofs.KeyGone.{no_owner, by_slot}
use Rattle.undo_log.proofs.undoing.has_key.Goals as goal

pub returns-then-owner_exists : goal.returns-then-owner_exists
returns-then-owner_exists c =
    let a = c.args in
    c.key_there.ensures ∙ sym (by_slot a.store.now c.requires a.owner a.key (sym c.owner_exists.ensures ∙ c.if-owner_exists.true))

pub returns-else-owner_exists : goal.returns-else-owner_exists
returns-else-owner_exists c =
    let a = c.args in
    c.if-owner_exists.false ∙ sym (no_owner a.store.now a.owner a.key (sym c.owner_exists.ensures ∙ c.if-owner_exists.false))
