-- `undo_new_key` meets its contract: where the key is there, its slot is taken out. Assumes nothing.
use native.Mathlib.Omega.{arith}
use mathlib.Core.Path.{sym, ap, subst, ◌∙◌}
use Prim.Native.Nat.{ℕ, ◌+◌, ◌<◌, ◌≤◌}
use Rattle.layout.specs.Columns.{columns}
use Rattle.layout.specs.Reading.{slots_of}
use Rattle.layout.specs.Owners.{key_count}
use Rattle.undo_log.specs.KeyRemoval.{without_slot}
use Rattle.undo_log.proofs.KeyGone.{owner_there, slot_there, key_undid}
use Rattle.undo_log.proofs.undoing.undo_new_key.Goals as goal

pub slot_for-slot-requires : goal.slot_for-slot-requires
slot_for-slot-requires c =
    let a = c.args in
    record {
      sound = c.requires;
      owner_value = owner_there a.store.now c.requires a.owner a.key (sym c.has_key.ensures ∙ c.if-not-has_key.false);
    }

pub remove_key-requires : goal.remove_key-requires
remove_key-requires c =
    let a = c.args in
    let w = a.owner in
    let can = sym c.has_key.ensures ∙ c.if-not-has_key.false in
    let C = columns a.store.now in
    let p = subst (λ (x : ℕ). (slots_of w ≤ x) × (x < slots_of w + key_count C w)) (sym c.slot_for-slot.ensures)
    (slot_there a.store.now c.requires w a.key can) in
    record { sound = c.requires; owner_value = owner_there a.store.now c.requires w a.key can; owner_bound = p.0; slot_bound = p.1 }

pub returns : goal.returns
returns c =
    let a = c.args in
    let w = a.owner in
    key_undid a.store.now c.requires w a.key (sym c.has_key.ensures ∙ c.if-not-has_key.false) c.remove_key.new.store omega arith
    (c.remove_key.ensures ∙ ap (without_slot (columns a.store.now) w) c.slot_for-slot.ensures)
