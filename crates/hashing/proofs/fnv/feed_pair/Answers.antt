-- `feed_pair` meets its contract: it feeds the low half and then the high half. Assumes nothing.
use Rattle.rules.specs.Hash.{tag}
use Rattle.hashing.proofs.Halves.{fed_in_two}
use Rattle.hashing.proofs.fnv.feed_pair.Goals as goal

pub returns : goal.returns
unfolding tag
returns c =
    let a = c.args in
    fed_in_two 1 a.word a.n c.feed_tag-fed.ensures c.feed_tag.ensures
