-- `feed_wide` meets its contract: it feeds the low half and then the high half. Assumes nothing.
use Rattle.rules.specs.Hash.{leaf}
use Rattle.hashing.proofs.Halves.{fed_in_two}
use Rattle.hashing.proofs.fnv.feed_wide.Goals as goal

pub returns : goal.returns
unfolding leaf
returns c =
    let a = c.args in
    fed_in_two 2 a.word a.n c.feed_pair-fed.ensures c.feed_pair.ensures
