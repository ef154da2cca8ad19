-- A call that is refused by a test answers its cause, and one that is not answers what is repeated. Assumes nothing.
use Prim.Native.Nat.{ℕ, ◌<◌, ◌≤◌}
use mathlib.Core.Bool.{Bool, true, false, ◌&&◌}
use mathlib.Core.List.{List}
use mathlib.Core.Path.{◌≡◌, refl, sym, ap, ap₂, subst, ◌∙◌}
use borrow.Author.Tests.{le-leb, lt-leb}
use lib.Dec.{leb}
use Rattle.std.specs.Prelude as std
use Rattle.rules.specs.Fragments.{exists}
use Rattle.rules.specs.declared.types.Sort.TheVariants.{Block as block}
use Rattle.rules.specs.Building.{first_failed}
use Rattle.rules.specs.declared.types.Ignore.{Ignore}
use Rattle.rules.specs.Types.{types_hold, renamed}
use Rattle.rules.specs.Runs.{max_run, repeated, repeated_of, repeated_by, repeated_run, run_tests}
use Rattle.rules.specs.RunLaws.{RepeatedIs}
use Rattle.rules.proofs.Runs.Answered.{repeated_is}
use Rattle.layout.specs.MarkedReading.{sound_lent}
use Rattle.rules.specs.declared.types.Cause.{Cause}
use Rattle.rules.specs.declared.types.Cause.TheVariants as causes
use Rattle.layout.specs.Reading.{store_in}
use Rattle.layout.specs.Soundness.{IsSound}
use Rattle.repeated_runs.specs.Calls.{found_of, RunAnswers}
use Rattle.repeated_runs.specs.declared.types.Starts.{Starts}

-- what is found to be sound is what was lent
pub as_found : {store w types : List ℕ} {ig : Ignore} {b n : ℕ} {q : std.Result (std.Option Starts) Cause}
    → (w ≡ store) × (sound_lent store ≡ true) → RunAnswers true w types ig b n q → RunAnswers (sound_lent store) store types ig b n q
as_found {store} {w} {types} {ig} {b} {n} {q} same h =
    subst (λ (t : Bool). RunAnswers t store types ig b n q) (sym same.1) (subst (λ (x : List ℕ). RunAnswers true x types ig b n q) same.0 h)

module _ (store types : List ℕ) (ig : Ignore) (b n : ℕ) where
  pub unsound : (ok : Bool) → ok ≡ false → RunAnswers ok store types ig b n (std.Err causes.NotSound)
  unfolding repeated_run repeated_by run_tests first_failed found_of
  unsound ok e = record { told = rw e refl }

  module _ (h : IsSound store) where
    pub untyped : types_hold types ≡ false → RunAnswers true store types ig b n (std.Err causes.BadTypes)
    unfolding repeated_run repeated_by run_tests first_failed found_of
    untyped t = record { told = rw t refl }

    module _ (t : types_hold types ≡ true) where
      pub missing : exists (store_in store) block b ≡ false → RunAnswers true store types ig b n (std.Err causes.NotThere)
      unfolding repeated_run repeated_by run_tests first_failed found_of
      missing e = record { told = rw (t, e) refl }

      module _ (e : exists (store_in store) block b ≡ true) where
        outside : leb 1 n && leb n max_run ≡ false → RunAnswers true store types ig b n (std.Err causes.BadRunLength)
        unfolding repeated_run repeated_by run_tests first_failed found_of
        outside l = record { told = rw (t, e, l) refl }

        pub no_length : n ≡ 0 → RunAnswers true store types ig b n (std.Err causes.BadRunLength)
        no_length z = outside (ap (λ (k : ℕ). leb 1 k && leb k max_run) z)

        pub too_long_lem : 1 ≤ n → max_run < n → RunAnswers true store types ig b n (std.Err causes.BadRunLength)
        too_long_lem low high = outside (ap₂ (λ (x y : Bool). x && y) (le-leb 1 n low) (lt-leb n max_run high))

        pub answered : 1 ≤ n → n ≤ max_run → (q : std.Option Starts) → found_of (std.Ok q) ≡ repeated_of (repeated (renamed types (store_in store)) ig b n) → RunAnswers true store types ig b n (std.Ok q)
        unfolding RepeatedIs
        answered low high q f =
            record { told = repeated_is (store_in store) h.ruled types t ig b n e low high ∙ sym f }
