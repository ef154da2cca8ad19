-- `copy_attributes` meets its contract: the first of the attributes are the other owner's so far, and the total has grown by as many. Assumes nothing.
use Rattle.std.proofs.Common.{◌≡◌, ℕ, ◌+◌, ◌<◌, ◌≤◌, get_or, ap, ◌∙◌, arith}
use Rattle.rules.specs.declared.types.Attribute.{Attribute}
use Rattle.rules.specs.Building.{attributes_of}
use Rattle.layout.specs.Columns.{columns}
use Rattle.layout.specs.Reading.{slots_of, attribute_at, store_in}
use Rattle.layout.specs.Owners.{key_count}
use Rattle.copying.proofs.Setting.{NextOne, no_attribute, begun, ended, next_one, again, total_again}
use Rattle.copying.proofs.writing.copy_attributes.Goals as goal
use Rattle.copying.proofs.writing.copy_attributes.Goals.{In-loop-i}

-- the next attribute
known : (c : In-loop-i) → NextOne c.loop-i.store c.args.from c.args.to c.loop-i.i (get_or (attributes_of (store_in c.args.store.now) c.args.from) c.loop-i.i no_attribute)
known c =
    let r = c.requires in
    let low : c.loop-i.i < key_count (columns c.args.store.now) c.args.from = omega (arith, c.loop-i-test.true, c.key_count-count.ensures) in
    next_one c.args.store.now c.args.from c.args.to r.arranged r.from_exists r.to_exists r.apart r.held r.room
    c.loop-i.store c.loop-i.i low c.loop-i.invariant.0 c.loop-i.invariant.1

pub loop-i-init : goal.loop-i-init
loop-i-init c =
    let r = c.requires in
    (begun c.args.store.now c.args.from c.args.to r.arranged r.from_exists r.to_exists r.empty, omega arith)

pub overflow_add-first_slot : goal.overflow_add-first_slot
overflow_add-first_slot c =
    let k = known ((goal.at.overflow_add-first_slot c).In-loop-i) in
    record { fits = omega (arith, k.from_slot, c.first_slot.ensures) }

pub attribute_at-attribute-requires : goal.attribute_at-attribute-requires
attribute_at-attribute-requires c =
    let k = known ((goal.at.attribute_at-attribute-requires c).In-loop-i) in
    omega (arith, k.from_slot, c.first_slot.ensures)

pub overflow_add-first_slot-in-loop-i : goal.overflow_add-first_slot-in-loop-i
overflow_add-first_slot-in-loop-i c =
    let k = known ((goal.at.overflow_add-first_slot-in-loop-i c).In-loop-i) in
    record { fits = omega (arith, k.to_slot, c.first_slot-in-loop-i.ensures) }

pub put_added-requires-clause-owner_value : goal.put_added-requires-clause-owner_value
put_added-requires-clause-owner_value c = (known ((goal.at.put_added-requires-clause-owner_value c).In-loop-i)).to_now

pub put_added-requires-clause-slot_bound : goal.put_added-requires-clause-slot_bound
put_added-requires-clause-slot_bound c =
    let k = known ((goal.at.put_added-requires-clause-slot_bound c).In-loop-i) in
    omega (arith, k.own_counted, c.first_slot-in-loop-i.ensures)

pub put_added-requires-clause-owner_bound : goal.put_added-requires-clause-owner_bound
put_added-requires-clause-owner_bound c = (known ((goal.at.put_added-requires-clause-owner_bound c).In-loop-i)).few_keys

pub put_added-requires-clause-kind_le_max_attribute_kind : goal.put_added-requires-clause-kind_le_max_attribute_kind
put_added-requires-clause-kind_le_max_attribute_kind c =
    let k = known ((goal.at.put_added-requires-clause-kind_le_max_attribute_kind c).In-loop-i) in
    let e = c.attribute_at-attribute.ensures ∙ ap (λ (x : ℕ). attribute_at (columns c.loop-i.store) (x + c.loop-i.i)) c.first_slot.ensures ∙ k.read in
    omega (arith, ap (λ (x : Attribute). x.kind) e, k.kind)

pub loop-i-preserved : goal.loop-i-preserved
loop-i-preserved c =
    let a = c.args.store.now in
    let from = c.args.from in
    let to = c.args.to in
    let r = c.requires in
    let m = c.loop-i in
    let k = known ((goal.at.loop-i-preserved c).In-loop-i) in
    let low : m.i < key_count (columns a) from = omega (arith, c.loop-i-test.true, c.key_count-count.ensures) in
    let e = c.attribute_at-attribute.ensures ∙ ap (λ (x : ℕ). attribute_at (columns m.store) (x + m.i)) c.first_slot.ensures ∙ k.read in
    let slot : c.first_slot-in-loop-i.result + m.i ≡ slots_of to + m.i = ap (λ (x : ℕ). x + m.i) c.first_slot-in-loop-i.ensures in
    let d = c.put_added.new.store in (
      again a from to r.arranged r.from_exists r.to_exists r.apart r.held r.room m.store m.i low m.invariant.0 m.invariant.1
          d (omega arith) (c.first_slot-in-loop-i.result + m.i) slot c.attribute_at-attribute.result e c.put_added.ensures,
      total_again a from to r.arranged r.from_exists r.to_exists r.apart r.held r.room m.store m.i low m.invariant.0 m.invariant.1
          d (omega arith) (c.first_slot-in-loop-i.result + m.i) slot c.attribute_at-attribute.result e c.put_added.ensures,
    )

pub returns : goal.returns
returns c =
    let r = c.requires in
    let past : key_count (columns c.args.store.now) c.args.from ≤ c.loop-i.i = omega (arith, c.loop-i-test.false, c.key_count-count.ensures) in
    ended c.args.store.now c.args.from c.args.to r.arranged r.from_exists r.to_exists c.loop-i.store c.loop-i.i past c.loop-i.invariant.0
