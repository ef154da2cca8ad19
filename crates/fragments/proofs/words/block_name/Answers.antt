-- `block_name` meets its contract: the word that is read is the block's own. Assumes nothing.
use Rattle.fragments.proofs.Naming.{block_named}
use Rattle.fragments.proofs.words.block_name.Goals as goal

pub returns : goal.returns
returns c =
    block_named c.args.numbers.now c.args.b c.name_by.result c.requires c.name_by.ensures
