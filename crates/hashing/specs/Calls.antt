-- What a hash gives: the rules' answer, for every buffer, list of renamed types, ignore rule and number.
use Rattle.rules.specs.declared.types.Cause.TheVariants.{NotThere}
use Rattle.std.specs.Prelude.{◌≡◌, ℕ, Bool, List, [], ◌∷◌}
use Rattle.std.specs.Prelude as std
use Rattle.rules.specs.Store.{Store}
use Rattle.rules.specs.Fragments.{exists}
use Rattle.rules.specs.declared.types.Sort.{Sort}
use Rattle.rules.specs.declared.types.Ignore.{Ignore}
use Rattle.rules.specs.Answers as rules
use Rattle.rules.specs.Answers.{hashed}
use Rattle.layout.specs.Reading.{store_in}
use Rattle.rules.specs.declared.types.Cause.{Cause}

-- 01's answer for each case
unfoldable pub hashed_of : std.Result ℕ Cause → rules.Hashed
hashed_of (std.Ok w) = rules.hash_is w
hashed_of (std.Err cause) = rules.refused_hash cause

-- what is tested of a fragment of a sound store, after the list of types, before anything is fed
unfoldable pub fragment_tests : Store → Sort → ℕ → List (Bool × Cause)
fragment_tests s f n = (exists s f n, NotThere) ∷ []

-- of a fragment; `ok` is whether the store is sound
pub record HashAnswers (ok : Bool) (store types : List ℕ) (ig : Ignore) (f : Sort) (n : ℕ) (q : std.Result ℕ Cause) : Type 0 where
  pub told : hashed ok (store_in store) types ig f n ≡ hashed_of q
