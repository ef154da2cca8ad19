-- `hash_head` meets its contract: the word is fed the kind, and then the number of regions. Assumes nothing.
use Rattle.rules.specs.Hash.{leaf, count}
use Rattle.hashing.proofs.Bytes.{fed_after}
use Rattle.hashing.proofs.state.RunningHash.hash_head.Goals as goal

pub returns : goal.returns
returns c = fed_after c.args.self.now.word (leaf c.args.kind) (count c.args.regions) c.hash_leaf.ensures c.hash_count.ensures
