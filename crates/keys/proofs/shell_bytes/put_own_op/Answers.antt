-- `put_own_op` meets its contract: kind and number of regions are read off the operation's row, and then comes the row. Assumes nothing.
use Rattle.fragments.specs.View.{options_in}
use native.Mathlib.Omega.{arith}
use Rattle.rules.specs.declared.types.Owner.TheVariants.{Op as of_op}
use Rattle.rules.specs.Hash.{count, head_bytes, shell_bytes}
use Rattle.layout.specs.Columns.{columns}
use Rattle.layout.specs.Reading.{store_in}
use Rattle.layout.proofs.Laid.{laid_facts}
use Rattle.fragments.specs.Options.{renamed_under}
use Rattle.fragments.specs.Rows.{row_shell}
use Rattle.keys.proofs.Putting.{put_then, put_as}
use Rattle.keys.proofs.Shelling.{head_bytes_lem, owner_bytes_lem}
use Rattle.keys.proofs.shell_bytes.put_own_op.Goals as goal

pub at-requires : goal.at-requires
at-requires c =
    let h = c.args.view.now.readable.sound in
    record {
      column_lt_column_count = omega arith;
      n_bound = omega (arith, (laid_facts (columns c.args.view.now.store.now) h.laid).counts.ops, c.requires.n_bound);
    }

pub returns : goal.returns
returns c =
    let a = c.args in
    let C = columns a.view.now.store.now in
    let o = options_in a.view.now in
    let row = c.op_row-row in
    let shell = shell_bytes count (row_shell C o row.result) in
    let head = put_as (head_bytes_lem C o a.n c.requires.n_bound c.at.ensures c.op_regions.ensures) c.put_head-second.ensures in
    put_as (owner_bytes_lem row.ensures o)
    (put_then (head_bytes (renamed_under o (store_in a.view.now.store.now)) (of_op a.n)) shell (omega arith) head c.min-rest.ensures c.put_row.ensures
    c.saturating_add.ensures)
