-- `put_count` meets its contract: a count is a number's 8 bytes, lowest first. Assumes nothing.
use mathlib.Core.Path.{◌∙◌}
use Rattle.keys.proofs.LittleEndian.{count_lem}
use Rattle.keys.proofs.Putting.{put_as}
use Rattle.keys.proofs.numbers.put_count.Goals as goal

pub returns : goal.returns
returns c = put_as (c.to_le_bytes.ensures ∙ count_lem c.args.many) c.put.ensures
