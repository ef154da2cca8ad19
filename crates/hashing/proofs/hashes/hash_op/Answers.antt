-- `hash_op` meets its contract: an operation's steps are its shell and then the rest. Assumes nothing.
use Rattle.std.proofs.Common.{[], ◌∷◌}
use Rattle.rules.specs.declared.types.Owner.TheVariants.{Op as of_op}
use Rattle.rules.specs.Fragments.{shell}
use Rattle.rules.specs.declared.types.Sort.TheVariants.{Op as op}
use Rattle.layout.specs.Reading.{store_in}
use Rattle.fragments.specs.View.{options_in}
use Rattle.fragments.specs.Parts.{full_steps}
use Rattle.fragments.proofs.Counting.{room_first, room_rest}
use Rattle.hashing.proofs.Feeding.{fed_then}
use Rattle.fragments.proofs.Rounds.{op_steps, steps_room, steps_done}
use Rattle.hashing.proofs.Parting.{hash_walk}
use Rattle.hashing.proofs.hashes.hash_op.Goals as goal

pub hash_op_shell-requires : goal.hash_op_shell-requires
hash_op_shell-requires c =
    let S = store_in c.args.view.now.store.now in
    let n = c.args.n in
    record {
      n_bound = c.requires.n_bound;
      definitions_fit = room_first S (shell (of_op n) ∷ []) (full_steps S n) (steps_room (hash_walk S (options_in c.args.view.now)) S op n _ (op_steps S n) {a = (c.args.numbers.now, c.args.state.now.word)} c.requires.definitions_fit);
    }

pub hash_op_full-requires : goal.hash_op_full-requires
hash_op_full-requires c =
    let S = store_in c.args.view.now.store.now in
    let n = c.args.n in
    let shells = c.hash_op_shell.ensures in
    record {
      n_bound = c.requires.n_bound;
      definitions_fit = room_rest S (shell (of_op n) ∷ []) (full_steps S n) (steps_room (hash_walk S (options_in c.args.view.now)) S op n _ (op_steps S n) {a = (c.args.numbers.now, c.args.state.now.word)} c.requires.definitions_fit) shells.numbers;
    }

pub returns : goal.returns
returns c =
    let S = store_in c.args.view.now.store.now in
    let n = c.args.n in
    steps_done (hash_walk S (options_in c.args.view.now)) S op n _ (op_steps S n) (fed_then S (options_in c.args.view.now) (shell (of_op n) ∷ []) (full_steps S n) c.hash_op_shell.ensures c.hash_op_full.ensures)
