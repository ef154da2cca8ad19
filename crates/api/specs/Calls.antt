-- Lists of calls made on a lent buffer: building calls, marks set, goings back and copies, good or refused.
use Rattle.std.specs.Prelude.{ℕ, true, List, [], ◌∷◌, ◌≡◌}
use Rattle.rules.specs.Store.{empty_store}
use Rattle.rules.specs.Building.{Built}
use Rattle.rules.specs.Marks.{unmarked, MarkedCall, after_marked}
use Rattle.layout.specs.MarkedReading.{marked_in, sound_lent}
use Rattle.api.specs.Building.{CallAnswers}

-- a list of calls made on a buffer, one after the other, refused ones among them
unfoldable pub Made : List ℕ → List MarkedCall → List ℕ → Type 0
Made entry [] exit = exit ≡ entry
Made entry (c ∷ cs) exit = (mid : List ℕ) × (r : Built) × CallAnswers entry mid c r × Made mid cs exit

-- the calls answer always: whatever the buffer and the list of calls, there is a buffer afterwards
unfoldable pub AlwaysMade : Type 0
AlwaysMade = (entry : List ℕ) (calls : List MarkedCall) → (exit : List ℕ) × Made entry calls exit

-- an empty store in memory, without marks: any sound buffer that reads as one. A buffer of zeros is such, and words behind the counts don't
-- matter
pub record IsEmpty (b : List ℕ) : Type 0 where
  pub sound : sound_lent b ≡ true
  pub reads : marked_in b ≡ unmarked empty_store

-- from an empty store, whatever list of calls is made: the buffer reads as the rules' marked store after that list, and is sound
unfoldable pub AfterCalls : Type 0
AfterCalls =
    (entry : List ℕ) → IsEmpty entry → (calls : List MarkedCall) (exit : List ℕ) → Made entry calls exit
    → (marked_in exit ≡ after_marked (unmarked empty_store) calls) × (sound_lent exit ≡ true)
