-- `hash_block_shells` meets its contract: the steps of the blocks that came are done, whose step is a shell. Assumes nothing.
use Rattle.rules.specs.declared.types.Owner.TheVariants.{Block as of_block}
use Rattle.layout.specs.Reading.{store_in}
use Rattle.fragments.specs.View.{options_in}
use Rattle.fragments.proofs.Rounds.{each_shell}
use Rattle.hashing.specs.Walked.{Feeds}
use Rattle.hashing.proofs.passes.hash_block_shells.Given as goal

abbrev pub invariant-loop-b : goal.invariant-loop-b
invariant-loop-b l =
    Feeds (store_in l.view.store.now) (options_in l.view) (each_shell of_block l.yielded) l.fn.numbers l.numbers l.fn.state.word l.state.word
