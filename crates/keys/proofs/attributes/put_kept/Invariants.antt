-- `put_kept` meets its contract: the attributes at the slots that came so far are put. Assumes nothing.
use Rattle.std.specs.List.{flat_map}
use Rattle.layout.specs.Columns.{columns}
use Rattle.keys.proofs.Putting.{PutAt}
use Rattle.keys.proofs.Shelling.{slot_bytes}
use Rattle.keys.proofs.attributes.put_kept.Given as goal

abbrev pub invariant-loop-slot : goal.invariant-loop-slot
invariant-loop-slot l =
    (goal.iterator-loop-slot).can_next l.slot-iterator
    × (goal.iterator-loop-slot).is_finite l.slot-iterator
    × PutAt (flat_map (slot_bytes (columns l.store)) l.yielded) l.initial.key 0 l.key l.at
