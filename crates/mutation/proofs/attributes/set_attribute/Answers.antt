-- `set_attribute` meets its contract: it is refused by the first test that fails and writes nothing, or all pass and what is written at the slot is what the call writes. Assumes nothing.
use native.Mathlib.Omega.{arith}
use mathlib.Core.Path.{◌≡◌, sym, ap, ◌∙◌}
use Rattle.std.proofs.Common.{rules}
use Rattle.std.specs.Prelude as std
use Rattle.rules.specs.Building.{set_attribute}
use Rattle.rules.specs.Causes.{cause_of}
use Rattle.mutation.specs.Types.{done_of}
use Rattle.mutation.proofs.Doing.{did_refuse}
use Rattle.mutation.proofs.Placed.{PlaceMeans, told, attribute_done}
use Rattle.mutation.proofs.attributes.set_attribute.Goals as goal

pub returns-in_err-slot : goal.returns-in_err-slot
unfolding cause_of done_of
returns-in_err-slot c =
    let a = c.args in
    let e = c.in_err-slot.field-0.0 in
    let told : c.from_residual.result ≡ std.Err e = search rules in
    did_refuse a.store.now c.requires (set_attribute a.owner a.attribute) _ e (sym c.in_err-slot.ensures.refused) (ap done_of told)

pub put_replaced-requires : goal.put_replaced-requires
unfolding PlaceMeans cause_of
put_replaced-requires c =
    let a = c.args in
    let p = told a.store.now c.requires a.owner a.attribute (sym c.in_ok-slot.ensures.refused) _ (sym c.in-Replaces.is ∙ c.in_ok-slot.ensures.placed) in
    record { slot_lt_slot_count = p.reached; kind_le_max_attribute_kind = p.fits }

pub put_added-requires : goal.put_added-requires
unfolding PlaceMeans cause_of
put_added-requires c =
    let a = c.args in
    let p = told a.store.now c.requires a.owner a.attribute (sym c.in_ok-slot.ensures.refused) _ (sym c.in-Adds.is ∙ c.in_ok-slot.ensures.placed) in
    record { arranged = record { sized = c.requires.sized; laid = c.requires.laid }; owner_value = p.owner; slot_bound = p.low; owner_bound = p.room; kind_le_max_attribute_kind = p.fits }

pub returns-in-Replaces : goal.returns-in-Replaces
unfolding PlaceMeans cause_of done_of
returns-in-Replaces c =
    let a = c.args in
    let w = a.owner in
    let t = a.attribute in
    let clear = sym c.in_ok-slot.ensures.refused in
    let p = told a.store.now c.requires w t clear _ (sym c.in-Replaces.is ∙ c.in_ok-slot.ensures.placed) in
    attribute_done a.store.now c.requires w t clear c.put_replaced.new.store omega arith
    (c.put_replaced.ensures ∙ p.written)

pub returns-in-Adds : goal.returns-in-Adds
unfolding PlaceMeans cause_of done_of
returns-in-Adds c =
    let a = c.args in
    let w = a.owner in
    let t = a.attribute in
    let clear = sym c.in_ok-slot.ensures.refused in
    let p = told a.store.now c.requires w t clear _ (sym c.in-Adds.is ∙ c.in_ok-slot.ensures.placed) in
    attribute_done a.store.now c.requires w t clear c.put_added.new.store omega arith
    (c.put_added.ensures ∙ p.written)
