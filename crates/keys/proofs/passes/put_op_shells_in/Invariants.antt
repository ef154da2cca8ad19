-- `put_op_shells_in` meets its contract: how many there are, then the shells of the operations that came so far. Assumes nothing.
use Rattle.rules.specs.declared.types.Owner.TheVariants.{Op as of_op}
use Rattle.fragments.proofs.Rounds.{each_shell}
use Rattle.fragments.specs.View.{store_read, options_in}
use Rattle.keys.proofs.Writing.{spot, WroteOn}
use Rattle.keys.proofs.passes.put_op_shells_in.Given as goal

abbrev pub invariant-loop-n : goal.invariant-loop-n
invariant-loop-n l =
    (goal.iterator-loop-n).can_next l.n-iterator
    × (goal.iterator-loop-n).is_finite l.n-iterator
    × WroteOn (store_read l.view) (options_in l.view) (each_shell of_op l.yielded) (spot l.initial.numbers l.initial.key l.initial.at) (spot l.numbers l.key l.at)
