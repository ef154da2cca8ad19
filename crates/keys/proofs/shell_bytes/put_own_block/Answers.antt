-- `put_own_block` meets its contract: a block has no head, and its row is what it is. Assumes nothing.
use Rattle.fragments.specs.View.{options_in}
use Rattle.rules.specs.Hash.{head_bytes}
use Rattle.keys.proofs.Putting.{put_as}
use Rattle.keys.proofs.Shelling.{owner_bytes_lem}
use Rattle.keys.proofs.shell_bytes.put_own_block.Goals as goal

pub returns : goal.returns
unfolding head_bytes
returns c =
    let a = c.args in
    put_as (owner_bytes_lem c.block_row-row.ensures (options_in a.view.now)) c.put_row.ensures
