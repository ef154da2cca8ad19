-- `put_block_shells` meets its contract: how many there are, then the shells of the blocks that came so far. Assumes nothing.
use Rattle.rules.specs.declared.types.Owner.TheVariants.{Block as of_block}
use Rattle.fragments.proofs.Rounds.{each_shell}
use Rattle.fragments.specs.View.{store_read, options_in}
use Rattle.keys.proofs.Writing.{spot, WroteOn}
use Rattle.keys.proofs.passes.put_block_shells.Given as goal

abbrev pub invariant-loop-b : goal.invariant-loop-b
invariant-loop-b l =
    (goal.iterator-loop-b).can_next l.b-iterator
    × (goal.iterator-loop-b).is_finite l.b-iterator
    × WroteOn (store_read l.view) (options_in l.view) (each_shell of_block l.yielded) (spot l.initial.numbers l.initial.key l.initial.at) (spot l.numbers l.key l.at)
