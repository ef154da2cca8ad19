-- `put_op_shells` meets its contract: the operations of the blocks that came so far. Assumes nothing.
use Rattle.std.specs.List.{flat_map}
use Rattle.fragments.specs.Parts.{op_shells}
use Rattle.fragments.specs.View.{store_read, options_in}
use Rattle.keys.proofs.Writing.{spot, WroteOn}
use Rattle.keys.proofs.passes.put_op_shells.Given as goal

abbrev pub invariant-loop-b : goal.invariant-loop-b
invariant-loop-b l =
    (goal.iterator-loop-b).can_next l.b-iterator
    × (goal.iterator-loop-b).is_finite l.b-iterator
    × WroteOn (store_read l.view) (options_in l.view) (flat_map (op_shells (store_read l.view)) l.yielded) (spot l.initial.numbers l.initial.key l.initial.at) (spot l.numbers l.key l.at)
