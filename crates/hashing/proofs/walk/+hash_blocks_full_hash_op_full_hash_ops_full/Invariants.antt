-- The three calls that go round meet their contracts together: the number of operations below falls from round to round, and in each loop the
-- steps of what came are done. Assumes nothing.
use Rattle.std.proofs.Common.{◌+◌, ◌*◌}
use Rattle.std.specs.List.{flat_map}
use Rattle.layout.specs.Reading.{store_in}
use Rattle.layout.proofs.Ranges.{range}
use Rattle.fragments.specs.View.{options_in}
use Rattle.fragments.specs.declared.types.Blocks.TheVariants.{Single}
use Rattle.fragments.proofs.Below.{below, around_list}
use Rattle.fragments.specs.Parts.{full_steps, ops_in_full}
use Rattle.fragments.proofs.Rounds.{in_region}
use Rattle.hashing.specs.Walked.{Feeds}
use Rattle.hashing.proofs.walk.+hash_blocks_full_hash_op_full_hash_ops_full.Given as goal

-- pass 3: the blocks that came
abbrev pub invariant-hash_blocks_full-loop-b : goal.invariant-hash_blocks_full-loop-b
invariant-hash_blocks_full-loop-b l =
    Feeds (store_in l.view.store.now) (options_in l.view) (flat_map (ops_in_full (store_in l.view.store.now)) l.yielded) l.initial.numbers l.numbers l.initial.state.word l.state.word

abbrev pub decreases-hash_blocks_full : goal.decreases-hash_blocks_full
decreases-hash_blocks_full l = 3 * below (store_in l.view.now.store.now) (around_list (store_in l.view.now.store.now) l.blocks) + 1

-- an operation's regions: those that came
abbrev pub invariant-hash_op_full-loop-r : goal.invariant-hash_op_full-loop-r
invariant-hash_op_full-loop-r l =
    Feeds (store_in l.view.store.now) (options_in l.view) (flat_map (in_region (store_in l.view.store.now)) (range l.initial.r l.r)) l.initial.numbers l.numbers l.initial.state.word l.state.word

abbrev pub decreases-hash_op_full : goal.decreases-hash_op_full
decreases-hash_op_full l = 3 * below (store_in l.view.now.store.now) l.n + 2

-- the operations of a block that came
abbrev pub invariant-hash_ops_full-loop-n : goal.invariant-hash_ops_full-loop-n
invariant-hash_ops_full-loop-n l =
    Feeds (store_in l.view.store.now) (options_in l.view) (flat_map (full_steps (store_in l.view.store.now)) l.yielded) l.fn.numbers l.numbers l.fn.state.word l.state.word

abbrev pub decreases-hash_ops_full : goal.decreases-hash_ops_full
decreases-hash_ops_full l = 3 * below (store_in l.view.now.store.now) (around_list (store_in l.view.now.store.now) (Single l.b))
