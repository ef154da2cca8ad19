-- `feed_leaf` meets its contract: bytes that are 0 only multiply, and a wide number is fed by its halves. Assumes nothing.
use Rattle.std.proofs.Common.{sym, ◌∙◌}
use Rattle.rules.specs.Hash.{leaf, tag}
use Rattle.hashing.proofs.Zeros.{small, two}
use Rattle.hashing.proofs.fnv.feed_leaf.Goals as goal

pub returns-then-n-lt256 : goal.returns-then-n-lt256
unfolding leaf
returns-then-n-lt256 c = c.wrapping_mul.ensures ∙ sym (small 3 c.args.word c.args.n c.if-n-lt256.true)

pub returns-then-n-lt65536 : goal.returns-then-n-lt65536
unfolding leaf tag
returns-then-n-lt65536 c = c.wrapping_mul-then-n-lt65536.ensures ∙ sym (two 2 c.args.word c.args.n c.if-n-lt65536.true c.feed_tag-fed.ensures)
