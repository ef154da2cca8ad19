-- Order 10 of what the offered comparisons leave: the words of the lent mapping after an equal comparison, begun with an empty one, on the buffer
-- after every list of building calls, marks set and goings back among them, and under every list of renamed types. They are filed with the
-- merge, and read backwards.
-- What is left is any words that meet the offered call's contract with its answer; so the statement is about what the code leaves.
use Rattle.std.specs.Prelude.{ℕ, true, List, ◌⊎◌, ◌≡◌}
use Rattle.rules.specs.Fragments.{Premise}
use Rattle.rules.specs.declared.types.Sort.{Sort}
use Rattle.rules.specs.declared.types.Ignore.{Ignore}
use Rattle.rules.specs.Types.{types_hold}
use Rattle.rules.specs.Marks.{MarkedCall}
use Rattle.rules.specs.Laws.{In}
use Rattle.rules.specs.MappingLaws.{Table, table_of, defines_of, Bijection, Backwards, Followed}
use Rattle.layout.specs.Reading.{store_in}
use Rattle.layout.specs.MarkedReading.{sound_lent}
use Rattle.api.specs.Calls.{Made, IsEmpty}
use Rattle.equivalence.specs.MappingWords.{mapping_of, empty_words}
use Rattle.equivalence.specs.Calls as comparisons
use Rattle.equivalence.specs.Compares.{compared_of}
use Rattle.laws.specs.Answers.{EqAnswer, SaysEqual}

-- the offered comparison of a with b, lent this list of types and an empty mapping, answers q and leaves these words
unfoldable pub Leaves : List ℕ → List ℕ → Ignore → Sort → ℕ → ℕ → EqAnswer → List ℕ → Type 0
Leaves buffer types ig f a b q words = comparisons.ComparisonAnswers (sound_lent buffer) buffer types empty_words words ig f a b (compared_of q)

-- the rules' laws, of the words on one buffer, for one list of types, ignore rule and sort of fragment. Backwards, and one followed by another,
-- under the premise of the laws, or where the comparison that gives the other mapping says equal
pub record MappingsObey (buffer types : List ℕ) (ig : Ignore) (f : Sort) : Type 0 where
  pub bijective :
      (a b : ℕ) → In (store_in buffer) f a → In (store_in buffer) f b
      → (q : EqAnswer) (words : List ℕ) → Leaves buffer types ig f a b q words → SaysEqual q
      → (t : Table) → Bijection (table_of (mapping_of words) t) (defines_of (store_in buffer) f a t) (defines_of (store_in buffer) f b t)
  pub backwards :
      (a b : ℕ) → In (store_in buffer) f a → In (store_in buffer) f b
      → (q p : EqAnswer) (there back : List ℕ) → Leaves buffer types ig f a b q there → Leaves buffer types ig f b a p back
      → SaysEqual q → Premise (store_in buffer) f a b ⊎ SaysEqual p
      → Backwards (mapping_of there) (mapping_of back)
  pub followed :
      (a b c : ℕ) → In (store_in buffer) f a → In (store_in buffer) f b → In (store_in buffer) f c
      → (q p r : EqAnswer) (first second whole : List ℕ)
      → Leaves buffer types ig f a b q first → Leaves buffer types ig f b c p second → Leaves buffer types ig f a c r whole
      → SaysEqual q → SaysEqual p → (Premise (store_in buffer) f a b × Premise (store_in buffer) f b c) ⊎ SaysEqual r
      → Followed (mapping_of first) (mapping_of second) (mapping_of whole)

-- from every empty store, after every list of building calls, marks set and goings back made through the offered functions
unfoldable pub MappingLawsOfCode : Type 0
MappingLawsOfCode =
    (entry : List ℕ) → IsEmpty entry → (calls : List MarkedCall) (buffer : List ℕ) → Made entry calls buffer
    → (types : List ℕ) → types_hold types ≡ true → (ig : Ignore) (f : Sort) → MappingsObey buffer types ig f
