-- `list_op_shells` meets its contract: the shells of the operations of the blocks that came so far are there. Assumes nothing.
use Rattle.std.specs.List.{flat_map}
use Rattle.layout.specs.Reading.{store_in}
use Rattle.fragments.specs.Parts.{op_shells}
use Rattle.copying.specs.Steps.{Listed}
use Rattle.copying.proofs.steps.list_op_shells.Given as goal

abbrev pub invariant-loop-b : goal.invariant-loop-b
invariant-loop-b l =
    (goal.iterator-loop-b).can_next l.b-iterator
    × (goal.iterator-loop-b).is_finite l.b-iterator
    × Listed (flat_map (op_shells (store_in l.store)) l.yielded) l.initial.walk l.walk
