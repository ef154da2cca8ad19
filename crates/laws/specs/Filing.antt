-- Order 2 of what the offered calls answer: "A filer relies on this: with an empty mapping and under the premise of the laws, 0 comes for
-- two operations, two blocks or two regions exactly when they are equal under that ignore rule", and under a list of renamed types. An answer is any that meets the offered
-- call's contract, as in `Answers`.
use Rattle.std.specs.Prelude.{ℕ, true, List, ◌↔◌, ◌≡◌, pos, take, Ok}
use Rattle.std.specs.declared.cmp.Ordering.{Ordering}
use Rattle.std.specs.List.{list_all}
use Rattle.rules.specs.Fragments.{Premise}
use Rattle.rules.specs.declared.types.Sort.{Sort}
use Rattle.rules.specs.declared.types.Ignore.{Ignore}
use Rattle.rules.specs.Types.{types_hold}
use Rattle.rules.specs.Marks.{MarkedCall, marked_call_fits}
use Rattle.rules.specs.Keys.{ordering_number, compare_bytes, fits, fields_fit}
use Rattle.rules.specs.Laws.{In}
use Rattle.layout.specs.Reading.{store_in}
use Rattle.layout.specs.MarkedReading.{sound_lent}
use Rattle.api.specs.Calls.{Made, IsEmpty}
use Rattle.keys.specs.Calls as keys
use Rattle.keys.specs.Order.{number_of_ordering}
use Rattle.laws.specs.Answers.{EqAnswer, Compares, SaysEqual}

-- the offered key call of a has written this key into some lent bytes (`operation_key`, `basic_block_key`, `region_key`)
pub record Writes (buffer types : List ℕ) (ig : Ignore) (f : Sort) (a : ℕ) (key : List ℕ) : Type 0 where
  pub before : List ℕ
  pub after : List ℕ
  pub length : ℕ
  pub answered : keys.KeyAnswers (sound_lent buffer) buffer types ig f a before after (keys.keyed_of (Ok length))
  pub begin : take length after ≡ key

-- two such keys compare as r (`compare_keys`)
abbrev pub Compare : List ℕ → List ℕ → Ordering → Type 0
Compare k l r = number_of_ordering r ≡ ordering_number (compare_bytes k l)

-- 0 comes exactly when the comparison of the two says that they are equal
unfoldable pub AnswersFile : List ℕ → List ℕ → Ignore → Sort → Type 0
AnswersFile buffer types ig f =
    (a b : ℕ) → In (store_in buffer) f a → In (store_in buffer) f b → Premise (store_in buffer) f a b
    → (q : EqAnswer) → Compares buffer types ig f a b q
    → (k l : List ℕ) → Writes buffer types ig f a k → Writes buffer types ig f b l → (r : Ordering) → Compare k l r
    → (number_of_ordering r ≡ pos 0) ↔ SaysEqual q

-- from every empty store, after every list of building calls, marks set and goings back made through the offered functions with arguments
-- of 32 bits, refused ones among them, under every list of types of 32 bits that is not refused: `filing_of_code`
unfoldable pub FilingOfCode : Type 0
FilingOfCode =
    (entry : List ℕ) → IsEmpty entry → (calls : List MarkedCall) → list_all marked_call_fits calls ≡ true → (buffer : List ℕ) → Made entry calls buffer
    → (types : List ℕ) → types_hold types ≡ true → list_all fits types ≡ true → (ig : Ignore) (f : Sort) → AnswersFile buffer types ig f

-- the fields of a store that is read from words of 32 bits fit: `words_fit`
unfoldable pub WordsFit : Type 0
WordsFit = (words : List ℕ) → list_all fits words ≡ true → fields_fit (store_in words) ≡ true
