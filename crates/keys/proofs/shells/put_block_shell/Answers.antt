-- `put_block_shell` meets its contract: what is defined is numbered, and what it is goes into the key. Assumes nothing.
use Rattle.rules.specs.declared.types.Owner.TheVariants.{Block as of_block}
use Rattle.fragments.specs.View.{store_read, options_in}
use Rattle.keys.proofs.Writing.{wrote_shell}
use Rattle.keys.proofs.shells.put_block_shell.Goals as goal

pub returns : goal.returns
returns c =
    let a = c.args in
    wrote_shell (store_read a.view.now) (options_in a.view.now) (of_block a.n) c.define_block.ensures c.put_own_block.ensures
