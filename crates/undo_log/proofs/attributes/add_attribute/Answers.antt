-- `add_attribute` meets its contract: the attribute is inserted, and that its key is new is remembered. Assumes nothing.
use native.Mathlib.Omega.{arith}
use mathlib.Core.Path.{ap, ◌∙◌}
use Rattle.rules.specs.Building.{set_attribute}
use Rattle.layout.specs.Columns.{columns}
use Rattle.mutation.proofs.Placed.{PlaceMeans, told}
use Rattle.undo_log.proofs.Lent.{lent_facts}
use Rattle.undo_log.specs.EntryWrites.{with_entry, key_entry}
use Rattle.undo_log.proofs.Room.{new_fits}
use Rattle.undo_log.proofs.WasAttribute.{adds_new, owner_small, key_replaced, key_entry_lem, attribute_room_lem, attribute_remembered}
use Rattle.undo_log.proofs.attributes.add_attribute.Goals as goal

pub key_was_none-was-requires : goal.key_was_none-was-requires
unfolding PlaceMeans
key_was_none-was-requires c =
    let a = c.args in
    let b = a.store.now in
    let t = (lent_facts b c.requires.lent).tables in
    let w = a.owner in
    owner_small b t w (told b t w a.attribute c.requires.clear _ c.requires.slot_value).owner

pub put_added-requires : goal.put_added-requires
unfolding PlaceMeans
put_added-requires c =
    let a = c.args in
    let b = a.store.now in
    let t = (lent_facts b c.requires.lent).tables in
    let p = told b t a.owner a.attribute c.requires.clear _ c.requires.slot_value in
    record { arranged = record { sized = t.sized; laid = t.laid }; owner_value = p.owner; slot_bound = p.low; owner_bound = p.room; kind_le_max_attribute_kind = p.fits }

pub remember-requires : goal.remember-requires
unfolding PlaceMeans
remember-requires c =
    let a = c.args in
    let b = a.store.now in
    let h = c.requires.lent in
    let t = (lent_facts b h).tables in
    let w = a.owner in
    let x = a.attribute in
    let p = told b t w x c.requires.clear _ c.requires.slot_value in
    let k = adds_new (columns b) w x _ c.requires.slot_value in
    let rest = attribute_room_lem b h w x c.requires.nonzero p.clear
    (new_fits b h c.requires.nonzero (set_attribute w x) (key_replaced b t w p.owner x _ k)) (key_entry w x.key)
    (key_entry_lem b t w p.owner x k) c.put_added.new.store omega arith (c.put_added.ensures ∙ p.written) in
    record { store_bound = rest.1.0; replaced_bound = rest.1.1 }

pub returns : goal.returns
unfolding PlaceMeans
returns c =
    let a = c.args in
    let b = a.store.now in
    let h = c.requires.lent in
    let t = (lent_facts b h).tables in
    let w = a.owner in
    let x = a.attribute in
    let p = told b t w x c.requires.clear _ c.requires.slot_value in
    let k = adds_new (columns b) w x _ c.requires.slot_value in
    attribute_remembered b h w x c.requires.nonzero p.clear
    (new_fits b h c.requires.nonzero (set_attribute w x) (key_replaced b t w p.owner x _ k))
    (key_entry w x.key) (key_entry_lem b t w p.owner x k)
    c.put_added.new.store omega arith (c.put_added.ensures ∙ p.written)
    c.remember.new.store omega arith (c.remember.ensures
    ∙ ap (with_entry (columns c.put_added.new.store)) c.key_was_none-was.ensures)
