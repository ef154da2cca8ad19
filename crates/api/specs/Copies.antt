-- What the offered call gives, on any buffer, with any mapping: cause 1 first, then 8, then the rules' tests.
use Rattle.std.specs.Prelude.{ℕ, List, Option}
use Rattle.rules.specs.Mapping.{allowed}
use Rattle.rules.specs.Marks.{copy}
use Rattle.layout.specs.Reading.{store_in}
use Rattle.rules.specs.Building.{Built}
use Rattle.equivalence.specs.MappingWords.{mapping_of}
use Rattle.api.specs.Building.{CallAnswers}
use Rattle.copying.specs.Cloned.{Mapped}

-- as one of the calls that change a marked store, with the mapping beside it
pub record CopyAnswers (entry exit before after : List ℕ) (n : ℕ) (place : Option ℕ) (r : Built) : Type 0 where
  pub store : CallAnswers entry exit (copy (allowed (store_in entry) (mapping_of before)) n place) r
  pub mapping : Mapped entry n before after r
