-- `empty_mapping` meets its contract: every word is written over. Assumes nothing.
use native.Mathlib.Omega.{arith}
use Rattle.std.proofs.Common.{◌≡◌, ℕ, length, ap, ◌∙◌, rules}
use lib.ListN.{replicate}
use Rattle.rules.specs.Mapping.{no_image}
use Rattle.equivalence.specs.MappingWords.{mapping_length, empty_words}
use Rattle.listing.proofs.emptying.empty_mapping.Goals as goal

pub returns : goal.returns
unfolding empty_words
returns c =
    let e : c.fill.new.self ≡ replicate (length c.args.mapping.now) no_image = search rules in
    let long : length c.args.mapping.now ≡ mapping_length = omega arith in
    e ∙ ap (λ (n : ℕ). replicate n no_image) long
