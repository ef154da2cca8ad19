-- A call is accepted exactly when each of its tests passes: the first that fails is the answer. Assumes nothing.
use Rattle.rules.specs.Causes.{number_of, same_cause}
use Rattle.rules.specs.declared.types.Cause.{Cause}
use mathlib.Core.Bool.{Bool, true, false, cond, ◌||◌}
use Rattle.std.specs.Prelude.{None, Some}
use mathlib.Core.List.{List, [], ◌∷◌}
use mathlib.Core.Path.{ap, ◌≡◌, refl}
use borrow.Author.Tests.{eq-eqb}
use Rattle.std.specs.List.{list_any}
use Rattle.rules.specs.Building.{first_failed}
use Rattle.rules.proofs.Basics.Tests.{or_left, or_right, impossible}

-- each test of a list with causes passes
abbrev pub AllPassed : List (Bool × Cause) → Type 0
AllPassed [] = Unit {0}
AllPassed (t ∷ ts) = (t.0 ≡ true) × AllPassed ts

pub first_failed_none : (ts : List (Bool × Cause)) → first_failed ts ≡ None → AllPassed ts
unfolding first_failed
first_failed_none [] e = tt
first_failed_none (t ∷ ts) e = go (λ f. first_failed_none ts f) t.0 refl e
  where
    go : (first_failed ts ≡ None → AllPassed ts) → (b : Bool) → t.0 ≡ b → cond b (first_failed ts) (Some t.1) ≡ None → AllPassed (t ∷ ts)
    go f true p q = (p, f q)
    go f false p q = impossible cc

pub all_passed : (ts : List (Bool × Cause)) → AllPassed ts → first_failed ts ≡ None
unfolding first_failed
all_passed [] p = refl
all_passed (t ∷ ts) p = rw p.0 (all_passed ts p.1)

-- a refusal's cause is one of the tests'
abbrev pub of_cause : Cause → Bool × Cause → Bool
of_cause cause t = same_cause t.1 cause

pub failed_cause : (cause : Cause) (ts : List (Bool × Cause)) → first_failed ts ≡ Some cause → list_any (of_cause cause) ts ≡ true
unfolding first_failed
failed_cause cause [] e = impossible cc
failed_cause cause (t ∷ ts) e = go (failed_cause cause ts) t.0 e
  where
    go : (first_failed ts ≡ Some cause → list_any (of_cause cause) ts ≡ true) → (b : Bool) → cond b (first_failed ts) (Some t.1) ≡ Some cause
        → (of_cause cause t || list_any (of_cause cause) ts) ≡ true
    go f true q = or_right (of_cause cause t) (list_any (of_cause cause) ts) (f q)
    go f false q = or_left (of_cause cause t) (list_any (of_cause cause) ts) (eq-eqb (number_of t.1) (number_of cause) (ap number_of cc))
