-- A call on existing fragments of a sound store, with an allowed mapping, is answered: its tests are the premises, and no walk comes to a
-- refusal. Assumes nothing.
use Prim.Native.Nat.{ℕ, zero, suc}
use mathlib.Core.Bool.{true}
use mathlib.Core.List.{List}
use mathlib.Core.Logic.{◌↔◌}
use Rattle.rules.specs.declared.types.Cause.{Cause}
use Rattle.std.specs.Prelude.{None}
use mathlib.Core.Path.{◌≡◌, refl}
use borrow.Author.Tests.{eq-eqb}
use lib.ListN.{replicate, length-replicate}
use Rattle.rules.specs.Store.{Store, sound}
use Rattle.rules.specs.Fragments.{exists}
use Rattle.rules.specs.declared.types.Sort.{Sort}
use Rattle.rules.specs.Building.{first_failed}
use Rattle.rules.specs.declared.types.Ignore.{Ignore}
use Rattle.rules.specs.Mapping.{Mapping, no_image, empty_mapping, entries_allowed, table_allowed, allowed}
use Rattle.rules.specs.Comparison.{unequal, one_longer, Walk, on, ended, standing, compare}
use Rattle.rules.specs.Hash.{hash}
use Rattle.rules.specs.Types.{types_hold, renamed}
use Rattle.rules.specs.Answers.{eq, neq, refused, compare_tests, comparison_of, comparison_by, comparison, hash_is, hash_tests, hashed_by, hashed}
use Rattle.rules.specs.Laws.{succeeds, equal}
use Rattle.rules.specs.MappingLaws.{filed}
use Rattle.rules.proofs.Basics.Tests.{and_both, every_of, clash, impossible}
use Rattle.rules.proofs.Soundness.Accepted.{all_passed}

-- ---- answers

module _ (s : Store) (sd : sound s ≡ true) (ig : Ignore) (f : Sort) where
  module _ (types : List ℕ) (th : types_hold types ≡ true) (m : Mapping) (am : allowed s m ≡ true) (l r : ℕ) (el : exists s f l ≡ true) (er : exists s f r ≡ true) where
    compare_accepted : first_failed (compare_tests true s types m f l r) ≡ None
    unfolding compare_tests
    compare_accepted = all_passed _ (refl, (am, (th, (and_both _ _ el er, tt))))

    pub comparison_is : comparison true s types m ig f l r ≡ comparison_of (compare (renamed types s) ig f l r m) m
    unfolding comparison comparison_by
    comparison_is = rw compare_accepted

    pub never_refused : (cause : Cause) → (comparison true s types m ig f l r).answer ≡ refused cause → ⊥
    unfolding comparison_of
    never_refused cause h = go (compare (renamed types s) ig f l r m) (rw comparison_is at h)
      where
        go : (w : Walk) → (comparison_of w m).answer ≡ refused cause → ⊥
        go (on st) c = impossible cc
        go (ended (unequal p) st) c = impossible cc
        go (ended (one_longer p) st) c = impossible cc

  pub hashed_is : (types : List ℕ) → types_hold types ≡ true → (n : ℕ) → exists s f n ≡ true
      → hashed true s types ig f n ≡ hash_is (hash (renamed types s) ig f n)
  unfolding hashed hashed_by hash_tests
  hashed_is types th n e =
      let t : first_failed (hash_tests true s types f n) ≡ None = all_passed _ (refl, (th, (e, tt))) in
      rw t

-- ---- the empty mapping is allowed, and equality is the answer eq

-- in a table of any length
none_allowed : (count n size : ℕ) → entries_allowed count n (replicate size no_image) ≡ true
unfolding entries_allowed
none_allowed count n zero = refl
none_allowed count n (suc size) = none_allowed count (suc n) size

table_allowed_lem : (size count : ℕ) → table_allowed size count (replicate size no_image) ≡ true
unfolding table_allowed
table_allowed_lem size count = and_both _ _ (eq-eqb _ size (length-replicate size no_image)) (none_allowed count 0 size)

pub empty_allowed : (s : Store) → allowed s empty_mapping ≡ true
unfolding allowed empty_mapping
empty_allowed s = every_of _ (table_allowed_lem _ _, (table_allowed_lem _ _, (table_allowed_lem _ _, tt)))

eq_answer : (w : Walk) (m : Mapping) → (succeeds w ≡ true) ↔ ((p : ℕ) × ((comparison_of w m).answer ≡ eq p))
unfolding succeeds comparison_of
eq_answer (on st) m = (λ h. (st.paired, refl), λ h. refl)
eq_answer (ended (unequal p) st) m = (λ h. clash h refl, λ h. let e : neq p st.paired ≡ eq h.0 = h.1 in cc)
eq_answer (ended (one_longer p) st) m = (λ h. clash h refl, λ h. let e : neq p st.paired ≡ eq h.0 = h.1 in cc)

pub equal_answered : (s : Store) → sound s ≡ true → (types : List ℕ) → types_hold types ≡ true → (ig : Ignore) (f : Sort) (a b : ℕ) → exists s f a ≡ true → exists s f b ≡ true
    → (equal (renamed types s) ig f a b ≡ true) ↔ ((p : ℕ) × ((comparison true s types empty_mapping ig f a b).answer ≡ eq p))
unfolding equal
equal_answered s sd types th ig f a b ea eb =
    rw (comparison_is s sd ig f types th empty_mapping (empty_allowed s) a b ea eb) (eq_answer (compare (renamed types s) ig f a b empty_mapping) empty_mapping)

-- an equal comparison leaves the mapping that is filed
left_standing : (w : Walk) (m : Mapping) → succeeds w ≡ true → (comparison_of w m).mapping ≡ (standing w).mapping
unfolding succeeds comparison_of standing
left_standing (on st) m h = refl
left_standing (ended why st) m h = clash h refl

pub filed_answered : (s : Store) → sound s ≡ true → (types : List ℕ) → types_hold types ≡ true → (ig : Ignore) (f : Sort) (a b : ℕ) → exists s f a ≡ true → exists s f b ≡ true
    → equal (renamed types s) ig f a b ≡ true → (comparison true s types empty_mapping ig f a b).mapping ≡ filed (renamed types s) ig f a b
unfolding equal filed
filed_answered s sd types th ig f a b ea eb h =
    rw (comparison_is s sd ig f types th empty_mapping (empty_allowed s) a b ea eb) (left_standing (compare (renamed types s) ig f a b empty_mapping) empty_mapping h)
