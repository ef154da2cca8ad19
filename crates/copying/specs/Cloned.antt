-- What the copying call gives: the rules' answer, store and mapping, for every buffer, mapping, operation and place.
use Rattle.rules.specs.declared.types.Cause.{Cause}
use Rattle.std.specs.Prelude.{◌≡◌, ℕ, Bool, List, Option}
use Rattle.rules.specs.Building.{Built, made, refused}
use Rattle.rules.specs.Copying.{copied, copy_mapping}
use Rattle.rules.specs.Marks.{copy}
use Rattle.layout.specs.Columns.{columns}
use Rattle.layout.specs.Reading.{store_in}
use Rattle.layout.specs.Soundness.{IsSound}
use Rattle.mutation.specs.Doing.{Behind}
use Rattle.equivalence.specs.MappingWords.{mapping_of}
use Rattle.undo_log.specs.MarkedCalls.{PerformsMarked}

-- the copy is written: the store and the mapping are the rules', and what marks rest on is as it was
pub record Written (entry exit : List ℕ) (n : ℕ) (place : Option ℕ) (mapping : List ℕ) : Type 0 where
  pub reads : store_in exit ≡ copied (store_in entry) n place
  pub sound : IsSound exit
  pub behind : Behind (columns entry) (columns exit)
  pub mapped : mapping_of mapping ≡ copy_mapping (store_in entry) n

-- the mapping afterwards: on acceptance exactly original to copy, else every word as it was
pub record Mapped (entry : List ℕ) (n : ℕ) (before after : List ℕ) (r : Built) : Type 0 where
  pub accepted : (k : ℕ) → r ≡ made k → mapping_of after ≡ copy_mapping (store_in entry) n
  pub unchanged : (cause : Cause) → r ≡ refused cause → after ≡ before

-- on a lent buffer, with a mapping that is allowed or not
pub record Cloned (ok : Bool) (entry exit before after : List ℕ) (n : ℕ) (place : Option ℕ) (r : Built) : Type 0 where
  pub did : PerformsMarked entry exit (copy ok n place) r
  pub mapping : Mapped entry n before after r
