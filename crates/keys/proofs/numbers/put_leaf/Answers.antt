-- `put_leaf` meets its contract: a leaf is a number's 4 bytes, lowest first. Assumes nothing.
use mathlib.Core.Path.{◌∙◌}
use Rattle.keys.proofs.LittleEndian.{leaf_lem}
use Rattle.keys.proofs.Putting.{put_as}
use Rattle.keys.proofs.numbers.put_leaf.Goals as goal

pub returns : goal.returns
returns c = put_as (c.to_le_bytes.ensures ∙ leaf_lem c.args.n) c.put.ensures
