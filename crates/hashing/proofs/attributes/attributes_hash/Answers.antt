-- `attributes_hash` meets its contract: the number of kept slots is fed, and then those that came. Assumes nothing.
use Rattle.std.proofs.Common.{◌≡◌, ℕ, ◌∷◌, ◌++◌, length, sym, refl, ap, ◌∙◌, arith}
use Rattle.std.specs.List.{flat_map}
use Rattle.rules.specs.Hash.{fnv_from, count, attribute_bytes}
use Rattle.rules.proofs.Form.Hashes.{concat_map_map}
use Rattle.layout.specs.Columns.{columns}
use Rattle.layout.specs.Reading.{attribute_at}
use Rattle.fragments.specs.Ignoring.{kept_from, kept_slots}
use Rattle.fragments.specs.SlotsLeft.{slots_left}
use Rattle.fragments.proofs.Kept.{kept_by_slots, slot_in_run}
use Rattle.fragments.proofs.Yielded.{item_comes, all_came, comes_mem}
use Rattle.hashing.proofs.Bytes.{fed_after, one_more_fed}
use Rattle.hashing.proofs.attributes.attributes_hash.Invariants.{slot_bytes}
use Rattle.hashing.proofs.attributes.attributes_hash.Goals as goal
use Rattle.hashing.proofs.attributes.attributes_hash.Goals.{In-Some}

slot_comes : (c : In-Some) → c.loop-slot.yielded ++ c.in-Some.slot ∷ slots_left c.next.new.self ≡ kept_slots (columns c.args.store.now) c.args.ignore c.args.first c.args.end
slot_comes c =
    item_comes slots_left _ _ _ _ (ap slots_left c.into_iter-slot-iterator.ensures.into_iter_gives ∙ c.new-slot-items.ensures) c.loop-slot.yielded_by c.next.new.self _ _ c.in-Some.is c.next.ensures.steps

pub loop-slot-init : goal.loop-slot-init
unfolding fnv_from
loop-slot-init c = refl

pub feed_attribute-requires : goal.feed_attribute-requires
feed_attribute-requires c =
    let here = slot_in_run (columns c.args.store.now) c.args.ignore c.args.first c.args.end _ (comes_mem _ _ _ _ (slot_comes ((goal.at.feed_attribute-requires c).In-Some))) in
    omega (arith, here.1, c.requires.end_le_slot_count)

pub loop-slot-preserved : goal.loop-slot-preserved
loop-slot-preserved c =
    one_more_fed (slot_bytes (columns c.args.store.now)) _ c.loop-slot.yielded c.in-Some.slot c.loop-slot.invariant c.feed_attribute.ensures

pub returns : goal.returns
returns c =
    let a = c.args in
    let C = columns a.store.now in
    let ig = a.ignore in
    let m = c.loop-slot in
    let kept = kept_from C ig a.first a.end in
    let came = all_came slots_left _ _ _ _ (ap slots_left c.into_iter-slot-iterator.ensures.into_iter_gives ∙ c.new-slot-items.ensures) m.yielded_by c.next.new.self _ c.in-None.is c.next.ensures.steps in
    let slots : flat_map (slot_bytes C) m.yielded ≡ flat_map attribute_bytes kept =
    ap (flat_map (slot_bytes C)) came ∙ sym (concat_map_map attribute_bytes (attribute_at C) (kept_slots C ig a.first a.end)) ∙ ap (flat_map attribute_bytes) (sym (kept_by_slots C ig a.first a.end)) in
    fed_after a.state.now.word (count (length kept)) (flat_map attribute_bytes kept)
    (c.hash_count.ensures ∙ ap (λ (n : ℕ). fnv_from a.state.now.word (count n)) c.count_kept.ensures)
    (m.invariant ∙ ap (fnv_from c.hash_count.new.self.word) slots)
