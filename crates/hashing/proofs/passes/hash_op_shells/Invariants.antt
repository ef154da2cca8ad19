-- `hash_op_shells` meets its contract: the steps of the blocks that came are done, which are those of their operations. Assumes nothing.
use Rattle.std.specs.List.{flat_map}
use Rattle.layout.specs.Reading.{store_in}
use Rattle.fragments.specs.View.{options_in}
use Rattle.fragments.specs.Parts.{op_shells}
use Rattle.hashing.specs.Walked.{Feeds}
use Rattle.hashing.proofs.passes.hash_op_shells.Given as goal

abbrev pub invariant-loop-b : goal.invariant-loop-b
invariant-loop-b l =
    Feeds (store_in l.view.store.now) (options_in l.view) (flat_map (op_shells (store_in l.view.store.now)) l.yielded) l.fn.numbers l.numbers l.fn.state.word l.state.word
