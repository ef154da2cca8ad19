-- A call for a block that exists and a length within its bounds answers; and runs of 256 operations are never found, since a block has fewer
-- than 512. Assumes nothing.
use Prim.Native.Nat.{ℕ, ◌<◌}
use native.Mathlib.Omega.{arith}
use mathlib.Core.Bool.{true}
use mathlib.Core.List.Memᴰ
use mathlib.Core.List.{◌∷◌, Memᴰ}
use mathlib.Core.Logic.{⊎_elim}
use Rattle.std.specs.Prelude.{Option, None, Some}
use mathlib.Core.Path.{◌≡◌, refl, subst}
use borrow.Author.Tests.{ltb-true, le-leb}
use lib.ListN.{length}
use Rattle.rules.specs.Store.{Store, ops_of, op_around, op_after, sound, max_ops}
use Rattle.rules.specs.Building.{first_failed}
use Rattle.rules.specs.Runs.{Run, max_run, repeated, run_tests, repeated_by, repeated_run}
use Rattle.rules.specs.RunLaws.{Apart, RepeatedFound, LongestRun, RepeatedIs}
use Rattle.rules.proofs.Basics.Tests.{and_both}
use Rattle.rules.proofs.Basics.Pigeons.{pigeons}
use Rattle.rules.proofs.Soundness.Accepted.{all_passed}
use Rattle.rules.proofs.Soundness.Children.{ops_in_lem, ops_distinct}
use Rattle.rules.proofs.Soundness.Sound.{facts}
use Rattle.rules.proofs.Runs.Searched.{repeated_found}

-- the operation around a block is none of its own, and has a smaller number
pub few_ops : (s : Store) → sound s ≡ true → (b : ℕ) → length (ops_of s b) < max_ops
unfolding op_after
few_ops s sd b =
    let h = pigeons max_ops (0 ∷ ops_of s b) (no_zero, ops_distinct s b) within in
    omega arith
  where
    later : (n : ℕ) → Memᴰ n (ops_of s b) → op_around s b < n
    later n m =
        let i = ops_in_lem s b m in
        let o = ((facts s sd).op n i.0).later in
        after (subst (λ (p : Option ℕ). op_after s n p ≡ true) i.1 o)
      where
        after : op_after s n (Some b) ≡ true → op_around s b < n
        after h = ltb-true _ _ h

    no_zero : Memᴰ 0 (ops_of s b) → ⊥
    no_zero m = let l = later 0 m in omega arith

    within : (n : ℕ) → Memᴰ n (0 ∷ ops_of s b) → n < max_ops
    within n m = ⊎_elim (λ e. omega (arith, e)) (λ k. let l = (ops_in_lem s b k).0 in omega (arith, l, (facts s sd).totals.ops)) (Memᴰ.cases_cons m)

pub longest_run : LongestRun
unfolding LongestRun RepeatedFound Apart
longest_run s sd ig b i = go (repeated s ig b max_run) refl
  where
    go : (o : Option Run) → repeated s ig b max_run ≡ o → o ≡ None
    go None e = refl
    go (Some r) e =
        let a = (repeated_found s ig b max_run r e).0 in
        let few = few_ops s sd b in
        absurd (omega (arith, a.0, a.1))

pub repeated_is : RepeatedIs
unfolding RepeatedIs repeated_run repeated_by run_tests
repeated_is s sd types th ig b n i low high =
    let t : first_failed (run_tests true s types b n) ≡ None =
    all_passed _ (refl, (th, (i, (and_both _ _ (le-leb 1 n low) (le-leb n max_run high), tt)))) in
    rw t
