-- `feed_tag` meets its contract: the only byte of a number below 256 is the number. Assumes nothing.
use Rattle.std.proofs.Common.{mod-eq_of_lt}
use Rattle.rules.specs.Hash.{fnv_from, bytes, tag}
use Rattle.hashing.proofs.fnv.feed_tag.Goals as goal

pub returns : goal.returns
unfolding fnv_from tag bytes
returns c = rw (mod-eq_of_lt c.ranges.n.fits) c.fnv_byte.ensures
