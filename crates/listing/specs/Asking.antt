-- What a `q` prints and leaves.
use Rattle.std.specs.Prelude as std
use Rattle.std.specs.Prelude.{ℕ, true, List, [], ◌≡◌}
use Rattle.rules.specs.Answers.{Compared, eq, neq, refused, comparison}
use Rattle.rules.specs.Mapping.{empty_mapping}
use Rattle.rules.specs.Listings.{LineOutcome, prints, stops, equal_line, unequal_line}
use Rattle.layout.specs.Reading.{store_in}
use Rattle.rules.specs.declared.types.Cause.{Cause}
use Rattle.equivalence.specs.MappingWords.{empty_words}
use Rattle.equivalence.specs.Compares.{compared_of}
use Rattle.equivalence.specs.declared.verdicts.Unequal.{Unequal}
use Rattle.listing.specs.declared.places.Place.{Place}
use Rattle.lines.specs.Writing.{Writes}
use Rattle.lines.specs.Room.{unequal_room}
use Rattle.lines.specs.declared.parsing.Query.{Query}
use Rattle.lines.specs.declared.writing.LineWriter.{LineWriter}
use Rattle.listing.specs.Progress.{progress_of}

-- ---- a comparison

-- the line of a comparison; a refused one has none
unfoldable pub verdict_line : Compared → List ℕ
verdict_line (eq paired) = equal_line paired
verdict_line (neq p paired) = unequal_line p paired
verdict_line (refused cause) = []

-- the answer to a query, with no type renamed, begun with an empty mapping
unfoldable pub answer_to : List ℕ → Query → Compared
answer_to store q = (comparison true (store_in store) [] empty_mapping q.ignore q.sort q.left q.right).answer

-- it is answered, and the mapping is empty again
pub record QueryCompared (store mapping : List ℕ) (q : Query) (r : std.Result (std.Result ℕ Unequal) Cause) : Type 0 where
  pub same : compared_of r ≡ answer_to store q
  pub empty : mapping ≡ empty_words

-- ---- a step: what is printed goes behind what was printed, and the rules' outcome is this

-- the most that is printed for a line of the listing: no line is longer than that of two unequal fragments
abbrev pub step_room : ℕ
step_room = unequal_room

-- it is done, or the cause for which the line is refused
abbrev pub LineResult : Type 0
LineResult = std.Result (Unit {0}) Cause

unfoldable pub outcome_of : List ℕ → List Place → List ℕ → LineResult → LineOutcome
outcome_of store tally bytes (std.Ok u) = prints bytes (progress_of store tally)
outcome_of store tally bytes (std.Err cause) = stops cause

unfoldable pub Goes : LineWriter → LineWriter → List ℕ → LineResult → Type 0
Goes before after bytes (std.Ok u) = Writes step_room bytes before after
Goes before after bytes (std.Err cause) = after ≡ before

-- of a step that leaves this store and this tally
pub record Stepped (outcome : LineOutcome) (store : List ℕ) (tally : List Place) (before after : LineWriter) (r : LineResult) : Type 0 where
  pub bytes : List ℕ
  pub does : outcome ≡ outcome_of store tally bytes r
  pub goes : Goes before after bytes r
