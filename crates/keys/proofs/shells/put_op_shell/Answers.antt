-- `put_op_shell` meets its contract: what is defined is numbered, and what it is goes into the key. Assumes nothing.
use Rattle.rules.specs.declared.types.Owner.TheVariants.{Op as of_op}
use Rattle.fragments.specs.View.{store_read, options_in}
use Rattle.keys.proofs.Writing.{wrote_shell}
use Rattle.keys.proofs.shells.put_op_shell.Goals as goal

pub returns : goal.returns
returns c =
    let a = c.args in
    wrote_shell (store_read a.view.now) (options_in a.view.now) (of_op a.n) c.define_op.ensures c.put_own_op.ensures
