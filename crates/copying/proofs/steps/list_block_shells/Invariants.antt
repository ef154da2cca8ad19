-- `list_block_shells` meets its contract: the shells of the blocks that came so far are there. Assumes nothing.
use Rattle.rules.specs.declared.types.Owner.TheVariants.{Block as of_block}
use Rattle.fragments.proofs.Rounds.{each_shell}
use Rattle.copying.specs.Steps.{Listed}
use Rattle.copying.proofs.steps.list_block_shells.Given as goal

abbrev pub invariant-loop-b : goal.invariant-loop-b
invariant-loop-b l =
    (goal.iterator-loop-b).can_next l.b-iterator
    × (goal.iterator-loop-b).is_finite l.b-iterator
    × Listed (each_shell of_block l.yielded) l.initial.walk l.walk
