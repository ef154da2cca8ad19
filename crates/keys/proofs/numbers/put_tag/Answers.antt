-- `put_tag` meets its contract: the only byte of a number below 256 is the number. Assumes nothing.
use Rattle.keys.proofs.LittleEndian.{tag_lem}
use Rattle.keys.proofs.Putting.{put_as}
use Rattle.keys.proofs.numbers.put_tag.Goals as goal

pub returns : goal.returns
returns c = put_as (tag_lem c.args.n c.ranges.n.fits) c.put.ensures
