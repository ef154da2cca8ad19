-- `put_op` meets its contract: an operation's steps are its shell and then the rest. Assumes nothing.
use native.Mathlib.Omega.{arith}
use mathlib.Core.List.{[], ◌∷◌, ◌++◌}
use Rattle.rules.specs.Store.{Store}
use Rattle.rules.specs.declared.types.Owner.TheVariants.{Op as of_op}
use Rattle.rules.specs.Fragments.{shell}
use Rattle.rules.specs.declared.types.Sort.TheVariants.{Op as op}
use Rattle.fragments.specs.Options.{Options}
use Rattle.fragments.specs.Numbered.{DefinitionsFit}
use Rattle.fragments.specs.Parts.{full_steps}
use Rattle.fragments.proofs.Counting.{room_first, room_rest}
use Rattle.fragments.proofs.Rounds.{op_steps, steps_room, steps_done}
use Rattle.fragments.specs.View.{store_read, options_in}
use Rattle.keys.proofs.Writing.{spot, wrote_then, wrote_first, wrote_rest, wrote_all, key_walk}
use Rattle.keys.proofs.keys.put_op.Goals as goal
use Rattle.keys.proofs.keys.put_op.Goals.{Start}

-- numbers are left for the one and the other
parted : (c : Start) → DefinitionsFit (store_read c.args.view.now) ((shell (of_op c.args.n) ∷ []) ++ full_steps (store_read c.args.view.now) c.args.n) c.args.numbers.now
parted c =
    let store : Store = store_read c.args.view.now in
    steps_room (key_walk store (options_in c.args.view.now)) store op c.args.n _ (op_steps store c.args.n)
    {a = spot c.args.numbers.now c.args.key.now 0} c.requires.definitions_fit

pub put_op_shell-at-requires-clause-definitions_fit : goal.put_op_shell-at-requires-clause-definitions_fit
put_op_shell-at-requires-clause-definitions_fit c =
    let start = (goal.at.put_op_shell-at-requires-clause-definitions_fit c).Start in
    room_first (store_read c.args.view.now) (shell (of_op c.args.n) ∷ []) (full_steps (store_read c.args.view.now) c.args.n) (parted start)

pub put_op_full-requires-clause-definitions_fit : goal.put_op_full-requires-clause-definitions_fit
put_op_full-requires-clause-definitions_fit c =
    let start = (goal.at.put_op_full-requires-clause-definitions_fit c).Start in
    room_rest (store_read c.args.view.now) (shell (of_op c.args.n) ∷ []) (full_steps (store_read c.args.view.now) c.args.n) (parted start)
    c.put_op_shell-at.ensures.numbers

pub returns : goal.returns
returns c =
    let store : Store = store_read c.args.view.now in
    let options : Options = options_in c.args.view.now in
    wrote_all store options (omega arith)
    (steps_done (key_walk store options) store op c.args.n _ (op_steps store c.args.n)
    (wrote_then store options (shell (of_op c.args.n) ∷ []) (full_steps store c.args.n) (wrote_first store options c.put_op_shell-at.ensures)
    (wrote_rest store options c.min-rest.ensures c.put_op_full.ensures c.saturating_add.ensures)))
