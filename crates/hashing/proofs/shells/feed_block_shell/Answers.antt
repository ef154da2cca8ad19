-- `feed_block_shell` meets its contract: a block has no head, and its row is what it is. Assumes nothing.
use Rattle.std.proofs.Common.{refl}
use Rattle.rules.specs.Hash.{fnv_from, head_bytes}
use Rattle.fragments.specs.View.{options_in}
use Rattle.hashing.proofs.Reading.{row_fed}
use Rattle.hashing.proofs.shells.feed_block_shell.Goals as goal

pub returns : goal.returns
unfolding head_bytes fnv_from
returns c =
    row_fed c.block_row-row.ensures (options_in c.args.view.now) c.args.state.now.word refl c.hash_row.ensures
