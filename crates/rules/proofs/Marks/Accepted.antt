-- What a call on a marked store does, by its tests; and that building calls do what they did while no mark is set. Assumes nothing.
use Rattle.rules.specs.declared.types.Cause.TheVariants.{JournalFull}
use Rattle.rules.specs.declared.types.Cause.{Cause}
use Prim.Native.Nat.{ℕ}
use mathlib.Core.Bool.{Bool, true, false, not}
use Rattle.std.specs.Prelude.{Option, None, Some}
use mathlib.Core.List.{List, [], ◌∷◌, ◌++◌, map}
use mathlib.Core.Path.{◌≡◌, refl, ap, ◌∙◌}
use Rattle.rules.specs.Store.{Store}
use Rattle.rules.specs.Building.{Call, tests, first_failed, applied, store_by, built, after}
use Rattle.rules.specs.Marks.{MarkedStore, unmarked, MarkedCall, build, set_mark, go_back, is_mark, is_set, replaces, remembered, can_remember, marked_tests, recounted, replaced_once, marked_applied, marked_by, marked, after_marked}
use Rattle.rules.specs.MarkLaws.{UnmarkedAfter}
use Rattle.rules.proofs.Basics.Tests.{and_both, or_right}
use Rattle.rules.proofs.Soundness.Accepted.{AllPassed, first_failed_none, all_passed}

-- an accepted call passed its tests, a refused one changes nothing
pub marked_cases : (P : MarkedStore → Type 0) (t : MarkedStore) (c : MarkedCall) → P t → (AllPassed (marked_tests t c) → P (marked_applied t c)) → P (marked t c)
unfolding marked marked_by
marked_cases P t c refused accepted = go (first_failed (marked_tests t c)) refl
  where
    go : (f : Option Cause) → first_failed (marked_tests t c) ≡ f → P (marked_by f t c)
    go None e = accepted (first_failed_none (marked_tests t c) e)
    go (Some cause) e = refused

pub marked_accepted : (t : MarkedStore) (c : MarkedCall) → AllPassed (marked_tests t c) → marked t c ≡ marked_applied t c
unfolding marked marked_by
marked_accepted t c p = rw (all_passed (marked_tests t c) p)

-- setting a mark, by its number, and going back to one that is set
pub set_accepted : (t : MarkedStore) (k : ℕ) → is_mark k ≡ true → marked t (set_mark k) ≡ marked_applied t (set_mark k)
unfolding marked_tests
set_accepted t k h = marked_accepted t (set_mark k) (h, tt)

pub set_refused : (t : MarkedStore) (k : ℕ) → is_mark k ≡ false → marked t (set_mark k) ≡ t
unfolding marked marked_by marked_tests first_failed
set_refused t k h = rw h

pub back_accepted : (t : MarkedStore) (k : ℕ) → is_mark k ≡ true → is_set k t.marks ≡ true → marked t (go_back k) ≡ marked_applied t (go_back k)
unfolding marked_tests
back_accepted t k h g = marked_accepted t (go_back k) (and_both (is_mark k) (is_set k t.marks) h g, tt)

-- ---- a building call passes the tests that it had, and one more

pub passed_both : (ts us : List (Bool × Cause)) → AllPassed (ts ++ us) → AllPassed ts × AllPassed us
passed_both [] us p = (tt, p)
passed_both (t ∷ ts) us p = let q = passed_both ts us p.1 in ((p.0, q.0), q.1)

pub build_passed : (t : MarkedStore) (c : Call) → AllPassed (marked_tests t (build c)) → (built t.store c ≡ applied t.store c) × (can_remember t c ≡ true)
unfolding marked_tests built store_by
build_passed t c p = let q = passed_both (tests t.store c) _ p in (rw (all_passed (tests t.store c) q.0), q.1.0)

-- ---- no mark is set

last_passed : (cause : Cause) (ts : List (Bool × Cause)) → first_failed (ts ++ ((true, cause) ∷ [])) ≡ first_failed ts
unfolding first_failed
last_passed cause [] = refl
last_passed cause (t ∷ ts) = rw (last_passed cause ts)

unmarked_tests : (s : Store) (c : Call) → first_failed (marked_tests (unmarked s) (build c)) ≡ first_failed (tests s c)
unfolding marked_tests can_remember remembered unmarked
unmarked_tests s c = rw (or_right (not (replaces s c)) true refl) (last_passed JournalFull (tests s c))

unmarked_built : (s : Store) (c : Call) → marked (unmarked s) (build c) ≡ unmarked (built s c)
unfolding marked built marked_by store_by marked_applied unmarked replaced_once recounted
unmarked_built s c = rw (unmarked_tests s c) (go (first_failed (tests s c)))
  where
    go : (f : Option Cause) → marked_by f (unmarked s) (build c) ≡ unmarked (store_by f s c)
    go None = refl
    go (Some cause) = refl

pub unmarked_after : UnmarkedAfter
unfolding UnmarkedAfter after after_marked
unmarked_after s [] = refl
unmarked_after s (c ∷ cs) = ap (λ (t : MarkedStore). after_marked t (map build cs)) (unmarked_built s c) ∙ unmarked_after (built s c) cs
