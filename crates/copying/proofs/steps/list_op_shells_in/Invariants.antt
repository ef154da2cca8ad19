-- `list_op_shells_in` meets its contract: the shells of the operations that came so far are there. Assumes nothing.
use Rattle.rules.specs.declared.types.Owner.TheVariants.{Op as of_op}
use Rattle.fragments.proofs.Rounds.{each_shell}
use Rattle.copying.specs.Steps.{Listed}
use Rattle.copying.proofs.steps.list_op_shells_in.Given as goal

abbrev pub invariant-loop-n : goal.invariant-loop-n
invariant-loop-n l =
    (goal.iterator-loop-n).can_next l.n-iterator
    × (goal.iterator-loop-n).is_finite l.n-iterator
    × Listed (each_shell of_op l.yielded) l.initial.walk l.walk
