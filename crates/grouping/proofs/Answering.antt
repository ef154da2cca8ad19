-- A call that is refused by a test answers its cause, and one that is not answers what the rules say. Assumes nothing.
use Prim.Native.Nat.{ℕ, ◌<◌, ◌≤◌}
use mathlib.Core.Bool.{Bool, true, false}
use mathlib.Core.List.{List, ◌++◌, map}
use Rattle.std.specs.Prelude.{Option, None, Some}
use mathlib.Core.Path.{◌≡◌, refl, sym, ap, ap₂, subst, ◌∙◌}
use borrow.Author.Tests.{le-leb, lt-leb}
use lib.ListN.{length, drop}
use Rattle.std.specs.Prelude as std
use Rattle.rules.specs.declared.types.Sort.{Sort}
use Rattle.rules.specs.Building.{first_failed}
use Rattle.rules.specs.declared.types.Ignore.{Ignore}
use Rattle.rules.specs.Types.{types_hold, renamed}
use Rattle.rules.specs.Keys.{written}
use Rattle.rules.specs.Independence.{independent, independence_is, independence_tests, independence_by, independence}
use Rattle.rules.specs.Grouping.{grouped, twins_of, twin_word, twin_tests, grouping_by, grouping}
use Rattle.rules.specs.declared.types.Cause.{Cause}
use Rattle.rules.specs.declared.types.Cause.TheVariants as causes
use Rattle.layout.specs.Reading.{store_in}
use Rattle.equivalence.specs.Calls.{pair_tests}
use Rattle.grouping.specs.Calls.{independence_of, grouped_of, IndependenceAnswers, TwinsAnswers}

-- ---- independence

module _ (store : List ℕ) (f : Sort) (a b : ℕ) where
  pub unsound : (ok : Bool) → ok ≡ false → IndependenceAnswers ok store f a b (std.Err causes.NotSound)
  unfolding independence independence_by independence_tests first_failed independence_of
  unsound ok e = record { told = rw e refl }

  pub refused : (cause : Cause) → first_failed (pair_tests (store_in store) f a b) ≡ Some cause → IndependenceAnswers true store f a b (std.Err cause)
  unfolding independence independence_by independence_tests pair_tests first_failed independence_of
  refused cause e = record { told = ap (λ (o : Option Cause). independence_by o (store_in store) f a b) e }

  pub answered : first_failed (pair_tests (store_in store) f a b) ≡ None → (r : Bool) → r ≡ independent (store_in store) f a b → IndependenceAnswers true store f a b (std.Ok r)
  unfolding independence independence_by independence_tests pair_tests first_failed independence_of
  answered e r h =
      record { told = ap (λ (o : Option Cause). independence_by o (store_in store) f a b) e ∙ ap independence_is (sym h) }

-- ---- twins

module _ (store types : List ℕ) (ig : Ignore) (lent : List ℕ) where
  pub unsound_store : (ok : Bool) → ok ≡ false → TwinsAnswers ok store types ig lent lent (std.Err causes.NotSound)
  unfolding grouping grouping_by twin_tests first_failed grouped_of
  unsound_store ok e = record { told = rw e refl }

  -- found to be sound, as if known to be
  pub as_found : (ok : Bool) → ok ≡ true → {after : List ℕ} {q : std.Result ℕ Cause} → TwinsAnswers true store types ig lent after q → TwinsAnswers ok store types ig lent after q
  as_found ok e {after} {q} h = subst (λ (t : Bool). TwinsAnswers t store types ig lent after q) (sym e) h

  pub untyped : types_hold types ≡ false → TwinsAnswers true store types ig lent lent (std.Err causes.BadTypes)
  unfolding grouping grouping_by twin_tests first_failed grouped_of
  untyped t = record { told = rw t refl }

  module _ (t : types_hold types ≡ true) where
    pub too_short : length lent < length (store_in store).ops → TwinsAnswers true store types ig lent lent (std.Err causes.NoRoom)
    unfolding grouping grouping_by twin_tests first_failed grouped_of
    too_short l = record { told = rw (t, lt-leb (length (store_in store).ops) (length lent) l) refl }

    pub found : length (store_in store).ops ≤ length lent → (count : ℕ) → count ≡ length (store_in store).ops → (words : List ℕ) → length words ≡ count
        → words ≡ map twin_word (twins_of (renamed types (store_in store)) ig) → TwinsAnswers true store types ig lent (words ++ drop count lent) (std.Ok count)
    unfolding grouping grouping_by twin_tests first_failed grouped_of written renamed
    found l count e words k w =
        record {
          told =
              rw (t, le-leb (length (store_in store).ops) (length lent) l)
              (ap₂ (λ (n : ℕ) (ws : List ℕ). record { answer = grouped n; words = ws }) (sym e)
              (ap (λ (ws : List ℕ). written ws lent) (sym w) ∙ ap (λ (n : ℕ). words ++ drop n lent) k));
        }
