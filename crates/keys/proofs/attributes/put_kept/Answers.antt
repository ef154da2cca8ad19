-- `put_kept` meets its contract: the attributes at the slots that came are put, and in the end all that are kept came. Assumes nothing.
use native.Mathlib.Omega.{arith}
use mathlib.Core.Path.{sym, ap, ◌∙◌}
use Rattle.std.specs.List.{flat_map}
use Rattle.rules.specs.Hash.{attribute_bytes}
use Rattle.layout.specs.Columns.{Cols, columns}
use Rattle.layout.specs.Reading.{attribute_at}
use Rattle.fragments.specs.Ignoring.{kept_slots}
use Rattle.fragments.specs.SlotsLeft.{slots_left}
use Rattle.fragments.proofs.Kept.{kept_by_slots, slot_in_run}
use Rattle.fragments.proofs.Yielded.{item_comes, all_came, comes_mem}
use Rattle.keys.proofs.Entries.{none_put, more_put, each_mapped}
use Rattle.keys.proofs.Putting.{puts_rest, put_all, put_as}
use Rattle.keys.proofs.Shelling.{slot_bytes}
use Rattle.keys.proofs.attributes.put_kept.Goals as goal

pub loop-slot-init : goal.loop-slot-init
loop-slot-init c = (_, _, none_put (slot_bytes (columns c.args.store.now)) _ _)

pub put_slot-requires : goal.put_slot-requires
put_slot-requires c =
    let a = c.args in
    let turn =
    item_comes slots_left _ _ _ _ (ap slots_left c.into_iter-slot-iterator.ensures.into_iter_gives ∙ c.new-slot-items.ensures)
    c.loop-slot.yielded_by c.next.new.self _ _ c.in-Some.is c.next.ensures.steps in
    let run = slot_in_run (columns a.store.now) a.ignore a.first a.end c.in-Some.slot (comes_mem _ _ _ _ turn) in
    omega (arith, run.1, c.requires)

pub loop-slot-preserved : goal.loop-slot-preserved
loop-slot-preserved c = (
  _,
  _,
  more_put (slot_bytes (columns c.args.store.now)) c.loop-slot.yielded c.in-Some.slot c.loop-slot.invariant.2
      (puts_rest c.min-rest.ensures c.put_slot.ensures c.saturating_add-at.ensures),
)

pub returns : goal.returns
returns c =
    let a = c.args in
    let C : Cols = columns a.store.now in
    let all =
    all_came slots_left _ _ _ _ (ap slots_left c.into_iter-slot-iterator.ensures.into_iter_gives ∙ c.new-slot-items.ensures)
    c.loop-slot.yielded_by c.next.new.self _ c.in-None.is c.next.ensures.steps in
    put_as (ap (flat_map (slot_bytes C)) all
    ∙ each_mapped attribute_bytes (attribute_at C) (kept_slots C a.ignore a.first a.end)
    ∙ ap (flat_map attribute_bytes) (sym (kept_by_slots C a.ignore a.first a.end))) (put_all (omega arith) c.loop-slot.invariant.2)
