-- `hash_op_shells_in` meets its contract: the steps of the operations that came are done, whose step is a shell. Assumes nothing.
use Rattle.rules.specs.declared.types.Owner.TheVariants.{Op as of_op}
use Rattle.layout.specs.Reading.{store_in}
use Rattle.fragments.specs.View.{options_in}
use Rattle.fragments.proofs.Rounds.{each_shell}
use Rattle.hashing.specs.Walked.{Feeds}
use Rattle.hashing.proofs.passes.hash_op_shells_in.Given as goal

abbrev pub invariant-loop-n : goal.invariant-loop-n
invariant-loop-n l =
    Feeds (store_in l.view.store.now) (options_in l.view) (each_shell of_op l.yielded) l.fn.numbers l.numbers l.fn.state.word l.state.word
