-- A hash that is refused by a test answers its cause, and one that is not answers the word that all steps of the fragment are fed into.
-- Assumes nothing.
use Rattle.rules.specs.declared.types.Cause.TheVariants.{BadTypes, NotSound}
use Rattle.std.proofs.Common.{◌≡◌, ℕ, Bool, true, false, cond, List, sym, refl, ap, ◌∙◌, subst}
use Rattle.std.specs.Prelude.{Option, None, Some}
use Rattle.std.specs.Prelude as std
use Rattle.rules.specs.Store.{Store}
use Rattle.rules.specs.Fragments.{exists}
use Rattle.rules.specs.declared.types.Sort.{Sort}
use Rattle.rules.specs.Building.{first_failed}
use Rattle.rules.specs.declared.types.Ignore.{Ignore}
use Rattle.rules.specs.Types.{types_hold, renamed}
use Rattle.rules.specs.Hash.{hash}
use Rattle.rules.specs.Answers.{Hashed, hash_tests, hashed_by, hashed}
use Rattle.rules.proofs.Soundness.Accepted.{first_failed_none}
use Rattle.layout.specs.MarkedReading.{sound_lent}
use Rattle.rules.specs.declared.types.Cause.{Cause}
use Rattle.rules.specs.declared.types.Cause.TheVariants as causes
use Rattle.layout.specs.Reading.{store_in}
use Rattle.layout.specs.Soundness.{IsSound}
use Rattle.hashing.specs.Calls.{hashed_of, fragment_tests, HashAnswers}

-- ---- the tests of a fragment

pub existing : (s : Store) (f : Sort) (n : ℕ) → first_failed (fragment_tests s f n) ≡ None → exists s f n ≡ true
unfolding fragment_tests
existing s f n h = (first_failed_none (fragment_tests s f n) h).0

-- ---- answers

-- what is found to be sound is what was lent
pub as_found : {b w types : List ℕ} {ig : Ignore} {f : Sort} {n : ℕ} {q : std.Result ℕ Cause}
    → (w ≡ b) × (sound_lent b ≡ true) → HashAnswers true w types ig f n q → HashAnswers (sound_lent b) b types ig f n q
as_found {b} {w} {types} {ig} {f} {n} {q} same h =
    subst (λ (t : Bool). HashAnswers t b types ig f n q) (sym same.1) (subst (λ (x : List ℕ). HashAnswers true x types ig f n q) same.0 h)

module _ (b types : List ℕ) (ig : Ignore) (f : Sort) (n : ℕ) where
  -- by whether the buffer is sound, whether the list of types holds, and which test of the fragment fails first
  by : Bool → Bool → Option Cause → Hashed
  by lent held o = hashed_by (cond lent (cond held o (Some BadTypes)) (Some NotSound)) (renamed types (store_in b)) ig f n

  abbrev first : Option Cause
  first = first_failed (fragment_tests (store_in b) f n)

  by_tests : (ok : Bool) → hashed ok (store_in b) types ig f n ≡ by ok (types_hold types) first
  unfolding hashed hash_tests first_failed fragment_tests by
  by_tests ok = refl

  pub unsound : (ok : Bool) → ok ≡ false → HashAnswers ok b types ig f n (std.Err causes.NotSound)
  unfolding hashed_by hashed_of by
  unsound ok h = record { told = by_tests ok ∙ ap (λ (t : Bool). by t (types_hold types) first) h }

  module _ (h : IsSound b) where
    pub untyped : types_hold types ≡ false → HashAnswers true b types ig f n (std.Err causes.BadTypes)
    unfolding hashed_by hashed_of by
    untyped k = record { told = by_tests true ∙ ap (λ (u : Bool). by true u first) k }

    module _ (k : types_hold types ≡ true) where
      tested : {o : Option Cause} → first ≡ o → hashed true (store_in b) types ig f n ≡ hashed_by o (renamed types (store_in b)) ig f n
      unfolding by
      tested e = by_tests true ∙ (λ i. by true (k i) (e i))

      pub refused : (cause : Cause) → first ≡ Some cause → HashAnswers true b types ig f n (std.Err cause)
      unfolding hashed_by hashed_of
      refused cause e = record { told = tested e }

      pub answered : (word : ℕ) → first ≡ None → word ≡ hash (renamed types (store_in b)) ig f n → HashAnswers true b types ig f n (std.Ok word)
      unfolding hashed_by hashed_of
      answered word e w = record { told = tested e ∙ ap (λ (k : ℕ). hashed_of (std.Ok k)) (sym w) }
