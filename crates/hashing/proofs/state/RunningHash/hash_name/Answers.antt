-- `hash_name` meets its contract, case by case: the word is fed the tag, and then the number. Assumes nothing.
use Rattle.rules.specs.Hash.{tag, leaf, count, name_bytes}
use Rattle.hashing.proofs.Bytes.{fed_after}
use Rattle.hashing.proofs.state.RunningHash.hash_name.Goals as goal

pub returns-in-WalkNumber : goal.returns-in-WalkNumber
unfolding name_bytes
returns-in-WalkNumber c =
    let word = c.args.self.now.word in
    rw c.in-WalkNumber.is (fed_after word (tag 0) (count c.in-WalkNumber.i) c.hash_tag.ensures c.hash_count.ensures)

pub returns-in-StoreNumber : goal.returns-in-StoreNumber
unfolding name_bytes
returns-in-StoreNumber c =
    let word = c.args.self.now.word in
    rw c.in-StoreNumber.is (fed_after word (tag 1) (leaf c.in-StoreNumber.n) c.hash_tag-in-StoreNumber.ensures c.hash_leaf.ensures)
