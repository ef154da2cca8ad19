-- `put_regionless` meets its contract: what the operation is, then its names. Assumes nothing.
use native.Mathlib.Omega.{arith}
use Rattle.rules.specs.declared.types.Owner.TheVariants.{Op as of_op}
use Rattle.keys.specs.Put.{owner_bytes}
use Rattle.keys.proofs.Putting.{put_then, put_as}
use Rattle.fragments.specs.View.{store_read, options_in}
use Rattle.keys.proofs.Lone.{own_uses, alone_bytes}
use Rattle.keys.proofs.regionless.put_regionless.Goals as goal

pub returns : goal.returns
returns c =
    let a = c.args in
    let S = store_read a.view.now in
    let o = options_in a.view.now in
    put_as (alone_bytes S o a.n c.requires.n_value)
    (put_then (owner_bytes S o (of_op a.n)) (own_uses S o a.n) (omega arith) c.put_own_op-at.ensures c.min-rest.ensures c.put_own_uses.ensures
    c.saturating_add.ensures)
