-- `hash_attribute` meets its contract: the word is fed the key, then the kind, the content and the flag. Assumes nothing.
use Rattle.std.proofs.Common.{◌++◌}
use Rattle.rules.specs.Hash.{leaf, flag}
use Rattle.hashing.proofs.Bytes.{fed_after, three_fed}
use Rattle.hashing.proofs.state.RunningHash.hash_attribute.Goals as goal

pub returns : goal.returns
returns c =
    let a = c.args in
    fed_after a.self.now.word (leaf a.key ++ leaf a.kind ++ leaf a.content) (flag a.yes)
    (three_fed a.self.now.word (leaf a.key) (leaf a.kind) (leaf a.content) c.hash_leaf.ensures c.hash_leaf-2.ensures c.hash_leaf-3.ensures) c.hash_flag.ensures
