-- `feed_attribute` meets its contract: the three words of the slot are the attribute's, and the second has its kind and its flag. Assumes nothing.
use Rattle.std.proofs.Common.{ap, ◌∙◌}
use Rattle.layout.specs.Columns.{columns}
use Rattle.layout.specs.Reading.{kind_from, inherent_from, attribute_at}
use Rattle.hashing.proofs.Bytes.{attribute_fed}
use Rattle.hashing.proofs.attributes.feed_attribute.Goals as goal

pub returns : goal.returns
unfolding attribute_at
returns c =
    let a = c.args in
    attribute_fed (attribute_at (columns a.store.now) a.slot) a.state.now.word
    c.at-key.ensures
    (c.kind_from.ensures ∙ ap kind_from c.at-kind.ensures)
    c.at-content.ensures
    (c.inherent_from.ensures ∙ ap inherent_from c.at-kind.ensures)
    c.hash_attribute.ensures
