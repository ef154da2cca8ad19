-- A comparison that is refused by a test answers its cause, and one that is not answers where its walk has come to. Assumes nothing.
use Rattle.rules.specs.declared.types.Cause.TheVariants.{BadMapping, BadTypes, NotSound}
use Rattle.std.specs.Prelude.{Result, Ok, Err, None, Some}
use Prim.Native.Nat.{ℕ}
use native.Mathlib.Omega.{arith}
use mathlib.Core.Bool.{Bool, true, false, true≢false}
use mathlib.Core.List.{List, [], ◌∷◌}
use mathlib.Core.Path.{◌≡◌, refl, sym, ap, subst, ◌∙◌}
use lib.ListN.{length}
use Rattle.rules.specs.Store.{Store, sound}
use Rattle.rules.specs.Fragments.{exists}
use Rattle.rules.specs.declared.types.Sort.{Sort}
use Rattle.rules.specs.declared.types.Sort.TheVariants.{Op as op, Block as block, Region as region}
use Rattle.rules.specs.Building.{first_failed}
use Rattle.rules.specs.declared.types.Ignore.{Ignore}
use Rattle.rules.specs.Mapping.{Mapping, allowed}
use Rattle.rules.specs.Types.{types_hold, renamed}
use Rattle.rules.specs.Comparison.{State, unequal, one_longer, Walk, on, ended, standing, ◌>>=◌, pair_ops, compare_by, start, compare}
use Rattle.rules.specs.Answers.{Compared, refused, compare_tests, comparison_of, comparison_by, comparison}
use Rattle.rules.proofs.Basics.Tests.{and_left, and_right}
use Rattle.rules.proofs.Soundness.Accepted.{first_failed_none}
use Rattle.rules.proofs.Walking.Paired.{paired_most}
use Rattle.rules.proofs.RenamedTypes.Renamed.{exists_renamed, renamed_sound}
use Rattle.layout.specs.MarkedReading.{sound_lent}
use Rattle.layout.specs.Reading.{store_in}
use Rattle.fragments.specs.Index.{list_in, IsIndex}
use Rattle.fragments.proofs.Indexed.{no_words_lem, no_list}
use Rattle.fragments.specs.Options.{Options, renamed_under}
use Rattle.fragments.specs.Order.{block_list}
use Rattle.equivalence.specs.MappingWords.{mapping_of}
use Rattle.equivalence.specs.Compares.{answer_of, state_of, outcome, PairedFits}
use Rattle.equivalence.specs.Compares.{Compares}
use Rattle.equivalence.specs.Walked.{left_of, right_of, pair_of_lists, region_walk, op_walk, lists_walk, fragments_walk}
use Rattle.equivalence.specs.Calls.{pair_tests, ComparisonAnswers}
use Rattle.rules.specs.Causes.{cause_of}
use Rattle.rules.specs.declared.types.Cause.{Cause}
use Rattle.equivalence.specs.declared.verdicts.Unequal.{Unequal}
use Rattle.equivalence.specs.declared.verdicts.Unequal.TheVariants.{FirstNEQOps, FirstNEQRegions, FirstNEQBlocks}
use Rattle.equivalence.specs.declared.types.BlockLists.TheVariants.{Single}

-- ---- the tests of a pair

pub pair_exists : (s : Store) (f : Sort) (l r : ℕ) → first_failed (pair_tests s f l r) ≡ None → (exists s f l ≡ true) × (exists s f r ≡ true)
unfolding pair_tests
pair_exists s f l r h =
    let t = (first_failed_none (pair_tests s f l r) h).0 in
    (and_left (exists s f l) (exists s f r) t, and_right (exists s f l) (exists s f r) t)

module _ (s : Store) (f : Sort) (l r : ℕ) {A : Type 0} (q : Result A Cause) (told : cause_of q ≡ first_failed (pair_tests s f l r)) where
  pub tests_passed : {a : A} → q ≡ Ok a → first_failed (pair_tests s f l r) ≡ None
  unfolding cause_of
  tests_passed e = sym told ∙ ap cause_of e

  pub tests_failed : {c : Cause} → q ≡ Err c → first_failed (pair_tests s f l r) ≡ Some c
  unfolding cause_of
  tests_failed e = sym told ∙ ap cause_of e

-- ---- walks

not_refused : (q : Result ℕ Unequal) (c : Cause) → answer_of q ≡ refused c → ⊥
unfolding answer_of
not_refused (Ok n) c h = true≢false cc
not_refused (Err (FirstNEQOps l r n)) c h = true≢false cc
not_refused (Err (FirstNEQRegions l r n)) c h = true≢false cc
not_refused (Err (FirstNEQBlocks l r n)) c h = true≢false cc

outcome_is : (w : Walk) (m : Mapping) → comparison_of w m ≡ outcome w
unfolding outcome comparison_of standing
outcome_is (on st) m = refl
outcome_is (ended (unequal p) st) m = refl
outcome_is (ended (one_longer p) st) m = refl

-- what is found to be sound, of a mapping of the right length, is what was lent
pub as_found : {b w types m entries z : List ℕ} {ig : Ignore} {f : Sort} {l r : ℕ} {q : Compared} → (w ≡ b) × (sound_lent b ≡ true) → entries ≡ m
    → ComparisonAnswers true w types entries z ig f l r q → ComparisonAnswers (sound_lent b) b types m z ig f l r q
as_found {b} {w} {types} {m} {entries} {z} {ig} {f} {l} {r} {q} same taken h =
    subst (λ (t : Bool). ComparisonAnswers t b types m z ig f l r q) (sym same.1)
    (subst (λ (x : List ℕ). ComparisonAnswers true x types m z ig f l r q) same.0
    (subst (λ (x : List ℕ). ComparisonAnswers true w types x z ig f l r q) taken h))

module _ (b types m : List ℕ) (ig : Ignore) (f : Sort) (l r : ℕ) where
  pub unsound : (ok : Bool) → ok ≡ false → ComparisonAnswers ok b types m m ig f l r (refused NotSound)
  unfolding comparison comparison_by compare_tests first_failed
  unsound ok e = record { told = rw e refl; unchanged = λ c h. refl }

  pub unallowed : (ok : Bool) → ok ≡ true → allowed (store_in b) (mapping_of m) ≡ false → ComparisonAnswers ok b types m m ig f l r (refused BadMapping)
  unfolding comparison comparison_by compare_tests first_failed
  unallowed ok e a = record { told = rw (e, a) refl; unchanged = λ c h. refl }

  pub untyped : allowed (store_in b) (mapping_of m) ≡ true → types_hold types ≡ false → ComparisonAnswers true b types m m ig f l r (refused BadTypes)
  unfolding comparison comparison_by compare_tests first_failed
  untyped a t = record { told = rw (a, t) refl; unchanged = λ c h. refl }

  module _ (a : allowed (store_in b) (mapping_of m) ≡ true) (ty : types_hold types ≡ true) where
    abbrev walk : Walk
    walk = compare_by (renamed types (store_in b)) ig f l r (state_of m 0)

    pub refused_pair : (c : Cause) → first_failed (pair_tests (store_in b) f l r) ≡ Some c → ComparisonAnswers true b types m m ig f l r (refused c)
    unfolding comparison comparison_by compare_tests first_failed pair_tests
    refused_pair c e = record { told = rw (a, ty, e) refl; unchanged = λ k h. refl }

    pub walked : (q : Result ℕ Unequal) (z : List ℕ) → first_failed (pair_tests (store_in b) f l r) ≡ None
        → Compares walk q z → ComparisonAnswers true b types m z ig f l r (answer_of q)
    unfolding comparison comparison_by compare_tests first_failed pair_tests compare start state_of Compares
    walked q z e t = record { told = rw (a, ty, e) (outcome_is walk (mapping_of m) ∙ t); unchanged = λ c k. absurd (not_refused q c k) }

-- ---- the walk of each sort, and that it enters no more than there are operations and blocks

pub few_walk : (s : Store) → sound s ≡ true → (o : Options) (f : Sort) (l r : ℕ) → exists s f l ≡ true → (m : List ℕ) → PairedFits (fragments_walk s o f l r (state_of m 0))
unfolding state_of
few_walk s sd o f l r e m =
    paired_most (renamed_under o s) (renamed_sound o.types s sd) o.ignore f l r (exists_renamed o.types s f l ∙ e) (state_of m 0)

module _ (s : Store) (o : Options) (l r : ℕ) (st : State) where
  pub op_walk_lem : fragments_walk s o op l r st ≡ pair_ops (renamed_under o s) o.ignore l r st >>= op_walk s o l r
  unfolding compare_by op_walk
  op_walk_lem = refl

  pub block_walk : fragments_walk s o block l r st ≡ lists_walk s o (Single l r) st
  unfolding compare_by lists_walk op_walk left_of right_of block_list pair_of_lists
  block_walk = refl

  pub region_walk_lem : fragments_walk s o region l r st ≡ region_walk s o l r st
  unfolding compare_by region_walk
  region_walk_lem = refl

-- ---- a lent list of renamed types

-- no words are the index of the list that they are
pub no_types : (w : List ℕ) → length w ≡ 0 → IsIndex w × (list_in w ≡ w)
no_types [] e = (no_words_lem, no_list)
no_types (x ∷ w) e = absurd (omega (arith, e))
