-- `replace_attribute` meets its contract: it is refused where no replacement more can be remembered, and else written and remembered. Assumes nothing.
use native.Mathlib.Omega.{arith}
use mathlib.Core.Path.{refl, sym, ap, ◌∙◌}
use Rattle.rules.specs.Building.{set_attribute}
use Rattle.layout.specs.Columns.{columns}
use Rattle.mutation.specs.Types.{done_of}
use Rattle.mutation.proofs.AttributeCauses.{owner_there}
use Rattle.mutation.proofs.Placed.{PlaceMeans, told}
use Rattle.undo_log.proofs.Lent.{lent_facts}
use Rattle.undo_log.specs.EntryWrites.{with_entry, attribute_entry}
use Rattle.undo_log.proofs.Done.{marked_full}
use Rattle.undo_log.proofs.Room.{one_fits, none_fits}
use Rattle.undo_log.proofs.WasAttribute.{replaces_there, owner_small, key_replaced, attribute_entry_lem, attribute_room_lem, attribute_remembered}
use Rattle.undo_log.proofs.attributes.replace_attribute.Goals as goal

pub returns-then-is_full : goal.returns-then-is_full
unfolding PlaceMeans done_of
returns-then-is_full c =
    let a = c.args in
    let b = a.store.now in
    let h = c.requires.lent in
    let t = (lent_facts b h).tables in
    let w = a.owner in
    let x = a.attribute in
    let p = told b t w x c.requires.clear _ c.requires.slot_value in
    let k = (replaces_there (columns b) w x _ c.requires.slot_value).0 in
    marked_full b h (set_attribute w x) _ p.clear
    (none_fits b h c.requires.nonzero (set_attribute w x) (sym c.is_full.ensures ∙ c.if-is_full.true)
    (key_replaced b t w (owner_there b t w x p.clear) x _ k))
    refl

pub attribute_was-was-requires : goal.attribute_was-was-requires
unfolding PlaceMeans
attribute_was-was-requires c =
    let a = c.args in
    let b = a.store.now in
    let t = (lent_facts b c.requires.lent).tables in
    let w = a.owner in
    let x = a.attribute in
    let p = told b t w x c.requires.clear _ c.requires.slot_value in
    record { owner_bound = owner_small b t w (owner_there b t w x p.clear); slot_lt_slot_count = p.reached }

pub put_replaced-requires : goal.put_replaced-requires
unfolding PlaceMeans
put_replaced-requires c =
    let a = c.args in
    let b = a.store.now in
    let t = (lent_facts b c.requires.lent).tables in
    let p = told b t a.owner a.attribute c.requires.clear _ c.requires.slot_value in
    record { slot_lt_slot_count = p.reached; kind_le_max_attribute_kind = p.fits }

pub remember-requires : goal.remember-requires
unfolding PlaceMeans
remember-requires c =
    let a = c.args in
    let b = a.store.now in
    let h = c.requires.lent in
    let t = (lent_facts b h).tables in
    let w = a.owner in
    let x = a.attribute in
    let p = told b t w x c.requires.clear _ c.requires.slot_value in
    let k = replaces_there (columns b) w x _ c.requires.slot_value in
    let rest = attribute_room_lem b h w x c.requires.nonzero p.clear
    (one_fits b h c.requires.nonzero (set_attribute w x) (sym c.is_full.ensures ∙ c.if-is_full.false)) (attribute_entry (columns b) w a.slot)
    (attribute_entry_lem b t w (owner_there b t w x p.clear) x a.slot k.0 k.1) c.put_replaced.new.store omega arith
    (c.put_replaced.ensures ∙ p.written) in
    record { store_bound = rest.1.0; replaced_bound = rest.1.1 }

pub returns : goal.returns
unfolding PlaceMeans done_of
returns c =
    let a = c.args in
    let b = a.store.now in
    let h = c.requires.lent in
    let t = (lent_facts b h).tables in
    let w = a.owner in
    let x = a.attribute in
    let p = told b t w x c.requires.clear _ c.requires.slot_value in
    let k = replaces_there (columns b) w x _ c.requires.slot_value in
    attribute_remembered b h w x c.requires.nonzero p.clear
    (one_fits b h c.requires.nonzero (set_attribute w x) (sym c.is_full.ensures ∙ c.if-is_full.false))
    (attribute_entry (columns b) w a.slot) (attribute_entry_lem b t w (owner_there b t w x p.clear) x a.slot k.0 k.1)
    c.put_replaced.new.store omega arith (c.put_replaced.ensures ∙ p.written)
    c.remember.new.store omega arith (c.remember.ensures
    ∙ ap (with_entry (columns c.put_replaced.new.store)) c.attribute_was-was.ensures)
