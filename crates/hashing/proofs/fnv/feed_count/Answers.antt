-- `feed_count` meets its contract: bytes that are 0 only multiply, all of them behind a number below 256, and the upper four behind any other.
-- Assumes nothing.
use Rattle.std.proofs.Common.{sym, ◌∙◌}
use Rattle.rules.specs.Hash.{leaf, count}
use Rattle.hashing.proofs.Zeros.{small, upper}
use Rattle.hashing.proofs.fnv.feed_count.Goals as goal

pub returns-then-n-lt256 : goal.returns-then-n-lt256
unfolding count
returns-then-n-lt256 c = c.wrapping_mul.ensures ∙ sym (small 7 c.args.word c.args.n c.if-n-lt256.true)

pub returns : goal.returns
unfolding leaf count
returns c = upper c.args.word c.args.n c.ranges.n.fits c.feed_leaf.ensures c.wrapping_mul-2.ensures
