-- What a comparison gives: the rules' answer and mapping, for every buffer, list of renamed types, mapping, ignore rule and pair of numbers.
use Rattle.rules.specs.declared.types.Cause.TheVariants.{NotThere}
use Rattle.rules.specs.declared.types.Cause.{Cause}
use Rattle.std.specs.Prelude.{ℕ, Bool, ◌&&◌, List, [], ◌∷◌, ◌≡◌}
use Rattle.rules.specs.Store.{Store}
use Rattle.rules.specs.Fragments.{exists}
use Rattle.rules.specs.declared.types.Sort.{Sort}
use Rattle.rules.specs.declared.types.Ignore.{Ignore}
use Rattle.rules.specs.Answers.{Compared, refused, comparison}
use Rattle.layout.specs.Reading.{store_in}
use Rattle.equivalence.specs.MappingWords.{mapping_of}

-- what is tested of two fragments before anything is entered
unfoldable pub pair_tests : Store → Sort → ℕ → ℕ → List (Bool × Cause)
pair_tests s f l r = (exists s f l && exists s f r, NotThere) ∷ []

-- of two fragments of one sort, under a list of renamed types, begun with a lent mapping; `ok` is whether the store is sound
pub record ComparisonAnswers (ok : Bool) (store types before after : List ℕ) (ig : Ignore) (f : Sort) (l r : ℕ) (q : Compared) : Type 0 where
  pub told : comparison ok (store_in store) types (mapping_of before) ig f l r ≡ record { answer = q; mapping = mapping_of after }
  -- "refused: ... mapping as they were": every word
  pub unchanged : (cause : Cause) → q ≡ refused cause → after ≡ before
