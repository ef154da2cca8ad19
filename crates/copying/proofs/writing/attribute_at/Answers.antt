-- `attribute_at` meets its contract: the kind and the flag are read from the word that they share. Assumes nothing.
use Rattle.std.proofs.Common.{ap, ◌∙◌}
use Rattle.layout.specs.Reading.{kind_from, inherent_from, attribute_at}
use Rattle.copying.proofs.writing.attribute_at.Goals as goal

pub returns : goal.returns
unfolding attribute_at
returns c =
    let kind = c.kind_from.ensures ∙ ap kind_from c.at-word.ensures in
    let flag = c.inherent_from.ensures ∙ ap inherent_from c.at-word.ensures in
    λ i. record { key = c.at.ensures i; kind = kind i; content = c.at-2.ensures i; inherent = flag i }
