-- The search for a left start and for a right one: what is left to try, from a start on, is the whole. Runs whose window sums differ are not
-- equal. Assumes nothing.
use Prim.Native.Nat.{ℕ, zero, suc, ◌+◌, ◌-◌, ◌<◌, ◌≤◌}
use native.Mathlib.Omega.{arith}
use mathlib.Core.Bool.{Bool, true, false}
use mathlib.Core.List.{List}
use mathlib.Core.Logic.{◌⊎◌, inl, inr}
use Rattle.std.specs.Prelude.{Option, None, Some}
use mathlib.Core.Path.{◌≡◌, sym, ap, ap₂, ◌∙◌}
use lib.ListN.{length, get_or}
use Rattle.rules.specs.Store.{Store, ops_of}
use Rattle.rules.specs.declared.types.Ignore.{Ignore}
use Rattle.rules.specs.Runs.{Run, run_of, same_runs, first_of, left_start, or_later, first_run, repeated, window_sum}
use Rattle.rules.specs.RunLaws.{SameWindow}
use Rattle.rules.specs.Types.{renamed}
use Rattle.rules.proofs.Basics.Tests.{decided}
use Rattle.rules.proofs.Runs.Windows.{same_window}
use Rattle.layout.specs.Reading.{store_in}
use Rattle.fragments.specs.Options.{Options, renamed_under}
use Rattle.repeated_runs.specs.Windows.{SumsOf}
use Rattle.hashing.proofs.Tried.{left_on}
use Rattle.repeated_runs.specs.Walked.{OpsOf}

-- ---- runs whose sums differ

module _ {store ops : List ℕ} (sums : List ℕ) (o : Options) {b : ℕ} (n : ℕ) (h : OpsOf store ops b) (sum : SumsOf (store_in store) o ops sums n) where
  abbrev s : Store
  s = renamed_under o (store_in store)

  sums_differ : (i j : ℕ) → i + n ≤ length ops → j + n ≤ length ops → (get_or sums i 0 ≡ get_or sums j 0 → ⊥) → same_runs s o.ignore b n i j ≡ false
  unfolding SameWindow same_runs renamed ops_of
  sums_differ i j a c ne = go (decided (same_runs s o.ignore b n i j))
    where
      listed : (k : ℕ) → run_of ops n k ≡ run_of (ops_of s b) n k
      listed k = ap (λ (l : List ℕ). run_of l n k) h.all

      go : (same_runs s o.ignore b n i j ≡ true) ⊎ (same_runs s o.ignore b n i j ≡ false) → same_runs s o.ignore b n i j ≡ false
      go (inl e) =
          absurd
          (ne
          (sum i a ∙ ap (window_sum s o.ignore) (listed i)
          ∙ same_window s o.ignore b _ _ e
          ∙ sym (ap (window_sum s o.ignore) (listed j)) ∙ sym (sum j c)))
      go (inr e) = e

-- ---- the first right start that has a left one

-- those that have none are passed over
skipped : (k m j : ℕ) (lefts : ℕ → Option ℕ) → ((q : ℕ) → j ≤ q → q < j + m → lefts q ≡ None) → first_run k j lefts ≡ first_run (k - m) (j + m) lefts
unfolding first_run or_later
skipped zero m j lefts h = let e : 0 ≡ 0 - m = omega arith in ap (λ (x : ℕ). first_run x (j + m) lefts) e
skipped (suc k) zero j lefts h =
    let e : suc k ≡ suc k - 0 = omega arith in
    let d : j ≡ j + 0 = omega arith in
    ap₂ (λ (x y : ℕ). first_run x y lefts) e d
skipped (suc k) (suc m) j lefts h =
    let e : k - m ≡ suc k - suc m = omega arith in
    let d : suc j + m ≡ j + suc m = omega arith in
    ap (λ (x : Option ℕ). or_later x j (first_run k (suc j) lefts)) (h j (omega arith) (omega arith))
    ∙ skipped k m (suc j) lefts (λ q a b. h q (omega arith) (omega arith))
    ∙ ap₂ (λ (x y : ℕ). first_run x y lefts) e d

module _ (s : Store) (ig : Ignore) (b n : ℕ) where
  abbrev lefts : ℕ → Option ℕ
  lefts = left_start s ig b n

  abbrev count : ℕ
  count = length (ops_of s b)

  -- what is left to try from j on
  abbrev pub right_on : ℕ → Option Run
  right_on j = first_run (suc count - n - j) j lefts

  -- a right start smaller than the length has no left one
  pub right_begins : repeated s ig b n ≡ right_on n
  unfolding repeated left_start first_of
  right_begins =
      let e : 0 + n ≡ n = omega arith in
      skipped (suc count - n) n 0 lefts (λ q a c. let k : suc q - n ≡ 0 = omega arith in ap (λ (m : ℕ). first_of m 0 (λ (i : ℕ). same_runs s ig b n i q)) k)
      ∙ ap (λ (j : ℕ). first_run (suc count - n - n) j lefts) e

  module _ (j : ℕ) where
    more : j + n ≤ count → suc count - n - j ≡ suc (suc count - n - (j + 1))
    more l = omega arith

    pub right_here_lem : {i : ℕ} → j + n ≤ count → lefts j ≡ Some i → right_on j ≡ Some (record { left = i; right = j })
    unfolding first_run or_later
    right_here_lem l e = ap (λ (m : ℕ). first_run m j lefts) (more l) ∙ ap (λ (x : Option ℕ). or_later x j (first_run (suc count - n - (j + 1)) (suc j) lefts)) e

    pub right_later : j + n ≤ count → lefts j ≡ None → right_on j ≡ right_on (j + 1)
    unfolding first_run or_later
    right_later l e =
        let next : suc j ≡ j + 1 = omega arith in
        ap (λ (m : ℕ). first_run m j lefts) (more l)
        ∙ ap (λ (x : Option ℕ). or_later x j (first_run (suc count - n - (j + 1)) (suc j) lefts)) e
        ∙ ap (λ (m : ℕ). first_run (suc count - n - (j + 1)) m lefts) next

    pub right_over : count < j + n → right_on j ≡ None
    unfolding first_run
    right_over l = let k : suc count - n - j ≡ 0 = omega arith in ap (λ (m : ℕ). first_run m j lefts) k

-- ---- left starts

-- whether the run from a start on is the right one
abbrev pub equals : Store → Options → ℕ → ℕ → ℕ → ℕ → Bool
equals S o b n right i = same_runs (renamed_under o S) o.ignore b n i right

-- all left starts are to be tried
pub left_all : (S : Store) (o : Options) (b n right : ℕ) → left_start (renamed_under o S) o.ignore b n right ≡ left_on (equals S o b n right) n right 0
unfolding left_start
left_all S o b n right =
    let all : suc right - n ≡ suc right - n - 0 = omega arith in
    ap (λ (k : ℕ). first_of k 0 (equals S o b n right)) all

-- and a start whose sum is another has another run
pub run_unlike : {store ops : List ℕ} (sums : List ℕ) (o : Options) {b : ℕ} (n : ℕ) → OpsOf store ops b → SumsOf (store_in store) o ops sums n
    → (right : ℕ) → right + n ≤ length ops → (i : ℕ) → i + n ≤ right → (get_or sums i 0 ≡ get_or sums right 0 → ⊥) → equals (store_in store) o b n right i ≡ false
run_unlike sums o n h sum right fits i l ne = sums_differ sums o n h sum i right (omega (arith, l, fits)) fits ne
