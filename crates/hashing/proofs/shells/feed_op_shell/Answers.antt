-- `feed_op_shell` meets its contract: the head and the row are what the operation is. Assumes nothing.
use Rattle.fragments.specs.View.{options_in}
use Rattle.hashing.proofs.Reading.{row_fed}
use Rattle.hashing.proofs.shells.feed_op_shell.Goals as goal

pub returns : goal.returns
returns c =
    row_fed c.op_row-row.ensures (options_in c.args.view.now) c.args.state.now.word c.hash_head.ensures c.hash_row.ensures
