-- `hash_block_shell` meets its contract: what is defined is numbered, and what it is goes into the word. Assumes nothing.
use Rattle.rules.specs.declared.types.Owner.TheVariants.{Block as of_block}
use Rattle.layout.specs.Reading.{store_in}
use Rattle.fragments.specs.View.{options_in}
use Rattle.hashing.proofs.Feeding.{fed_shell}
use Rattle.hashing.proofs.shells.hash_block_shell.Goals as goal

pub returns : goal.returns
returns c =
    fed_shell (store_in c.args.view.now.store.now) (options_in c.args.view.now) (of_block c.args.n) c.define_block.ensures c.feed_block_shell.ensures
