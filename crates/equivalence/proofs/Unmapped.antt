-- The words of an empty mapping are read as one. Assumes nothing.
use Rattle.std.proofs.Common.{◌≡◌, ap, take, ◌∙◌, arith}
use Rattle.std.proofs.lemmas.List.{take-replicate, drop-replicate}
use Rattle.rules.specs.Mapping.{no_image, empty_mapping}
use Rattle.equivalence.specs.MappingWords.{mapping_of, empty_words}

pub empty_words_lem : mapping_of empty_words ≡ empty_mapping
unfolding mapping_of empty_words empty_mapping
empty_words_lem = λ i. record {
  values = take-replicate 2048 2816 no_image (omega arith) i;
  blocks = (ap (take 256) (drop-replicate 2048 2816 no_image) ∙ take-replicate 256 768 no_image (omega arith)) i;
  ops = drop-replicate 2304 2816 no_image i;
}
