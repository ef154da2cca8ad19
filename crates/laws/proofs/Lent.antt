-- A mapping is allowed again after a comparison: by the contract its words are read as the rules' mapping afterwards, and the rules leave an
-- allowed one allowed. Assumes nothing.
use mathlib.Core.Bool.{true}
use mathlib.Core.Path.{◌≡◌, ap, subst}
use Rattle.rules.specs.Mapping.{Mapping, allowed}
use Rattle.rules.specs.Answers.{Comparison}
use Rattle.rules.proofs.Walking.Allowed.{comparison_allowed}
use Rattle.layout.specs.Reading.{store_in}
use Rattle.equivalence.specs.MappingWords.{mapping_of}
use Rattle.laws.specs.Lending.{AllowedAgain}

pub allowed_again : AllowedAgain
unfolding AllowedAgain
allowed_again ok buffer types ig f l r before after h q a =
    subst (λ (m : Mapping). allowed (store_in buffer) m ≡ true) (ap (λ (c : Comparison). c.mapping) a.told)
    (comparison_allowed (store_in buffer) ok types ig f l r (mapping_of before) h)
