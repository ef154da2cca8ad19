-- `attribute_from` meets its contract: the word's kind and its flag. Assumes nothing.
use Rattle.undo_log.proofs.undoing.attribute_from.Goals as goal

pub returns : goal.returns
returns c =
    let a = c.args in
    λ z. record { key = a.key; kind = c.kind_from.ensures z; content = a.content; inherent = c.inherent_from.ensures z }
