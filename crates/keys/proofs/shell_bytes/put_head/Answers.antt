-- `put_head` meets its contract: the kind, then how many regions. Assumes nothing.
use native.Mathlib.Omega.{arith}
use mathlib.Core.List.{◌++◌}
use mathlib.Core.Path.{refl}
use Rattle.rules.specs.Hash.{bytes, leaf, count}
use Rattle.keys.proofs.Putting.{put_then, put_short}
use Rattle.keys.proofs.shell_bytes.put_head.Goals as goal

pub returns-then-key-lt12 : goal.returns-then-key-lt12
unfolding bytes leaf count
returns-then-key-lt12 c = put_short (leaf c.args.kind ++ count c.args.regions) (omega arith) refl (omega arith)

pub returns : goal.returns
returns c =
    put_then (leaf c.args.kind) (count c.args.regions) (omega arith) c.put_leaf-at.ensures c.min-rest.ensures c.put_count.ensures c.saturating_add.ensures
