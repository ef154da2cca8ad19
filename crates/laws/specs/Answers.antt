-- Demand 3 of what the offered calls answer: "for every ignore rule and all fragments of one sort, equality is reflexive, symmetric and
-- transitive, and equal fragments have equal hashes, under 01's premise", on the buffer after every list of building calls, "that sets and
-- returns to marks" (order 7) or does not, and under every list of renamed types (order 3).
-- An answer is any that meets the offered call's contract; so the statement is about what the code gives, whenever it is called.
use Rattle.std.specs.Prelude.{ℕ, true, List, ◌≡◌, Result, Ok}
use Rattle.rules.specs.Fragments.{Premise}
use Rattle.rules.specs.declared.types.Sort.{Sort}
use Rattle.rules.specs.declared.types.Ignore.{Ignore}
use Rattle.rules.specs.Types.{types_hold}
use Rattle.rules.specs.Marks.{MarkedCall}
use Rattle.rules.specs.Laws.{In}
use Rattle.layout.specs.Reading.{store_in}
use Rattle.rules.specs.declared.types.Cause.{Cause}
use Rattle.layout.specs.MarkedReading.{sound_lent}
use Rattle.api.specs.Calls.{Made, IsEmpty}
use Rattle.equivalence.specs.MappingWords.{empty_words}
use Rattle.equivalence.specs.Calls as comparisons
use Rattle.equivalence.specs.Compares.{compared_of}
use Rattle.equivalence.specs.declared.verdicts.Unequal.{Unequal}
use Rattle.hashing.specs.Calls as hashes

-- what an offered comparison answers, and an offered hash
abbrev pub EqAnswer : Type 0
EqAnswer = Result (Result ℕ Unequal) Cause

abbrev pub HashAnswer : Type 0
HashAnswer = Result ℕ Cause

-- the offered comparison of a with b, lent this list of types and an empty mapping, answers q (`operation_eq`, `basic_block_eq`, `region_eq`)
unfoldable pub Compares : List ℕ → List ℕ → Ignore → Sort → ℕ → ℕ → EqAnswer → Type 0
Compares buffer types ig f a b q = (after : List ℕ) × comparisons.ComparisonAnswers (sound_lent buffer) buffer types empty_words after ig f a b (compared_of q)

-- the offered hash of a, lent this list, answers h (`operation_hash`, `basic_block_hash`, `region_hash`)
unfoldable pub Hashes : List ℕ → List ℕ → Ignore → Sort → ℕ → HashAnswer → Type 0
Hashes buffer types ig f a h = hashes.HashAnswers (sound_lent buffer) buffer types ig f a h

-- the answer is that the two are equal
abbrev pub SaysEqual : EqAnswer → Type 0
SaysEqual q = (n : ℕ) × (q ≡ Ok (Ok n))

-- the four laws, of the answers on one buffer, for one list of types, ignore rule and sort of fragment
pub record AnswersObey (buffer types : List ℕ) (ig : Ignore) (f : Sort) : Type 0 where
  pub reflexive : (a : ℕ) → In (store_in buffer) f a → (q : EqAnswer) → Compares buffer types ig f a a q → SaysEqual q
  pub symmetric :
      (a b : ℕ) → In (store_in buffer) f a → In (store_in buffer) f b → Premise (store_in buffer) f a b
      → (q p : EqAnswer) → Compares buffer types ig f a b q → Compares buffer types ig f b a p → SaysEqual q → SaysEqual p
  pub transitive :
      (a b c : ℕ) → In (store_in buffer) f a → In (store_in buffer) f b → In (store_in buffer) f c
      → Premise (store_in buffer) f a b → Premise (store_in buffer) f b c
      → (q p r : EqAnswer) → Compares buffer types ig f a b q → Compares buffer types ig f b c p → Compares buffer types ig f a c r
      → SaysEqual q → SaysEqual p → SaysEqual r
  pub hashes :
      (a b : ℕ) → In (store_in buffer) f a → In (store_in buffer) f b → Premise (store_in buffer) f a b
      → (q : EqAnswer) → Compares buffer types ig f a b q → SaysEqual q
      → (h k : HashAnswer) → Hashes buffer types ig f a h → Hashes buffer types ig f b k → (w : ℕ) × (h ≡ Ok w) × (k ≡ Ok w)

-- from every empty store, after every list of building calls, marks set and goings back made through the offered functions, whatever the
-- arguments and refusals, and under every list of types that is not refused; the empty one is such
unfoldable pub Demand3OfCode : Type 0
Demand3OfCode =
    (entry : List ℕ) → IsEmpty entry → (calls : List MarkedCall) (buffer : List ℕ) → Made entry calls buffer
    → (types : List ℕ) → types_hold types ≡ true → (ig : Ignore) (f : Sort) → AnswersObey buffer types ig f
