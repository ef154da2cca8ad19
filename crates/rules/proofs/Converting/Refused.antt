-- Nothing is refused exactly when each test passes; and of a listing's lines no test refuses one, before or after, exactly when each of them
-- is accepted. Assumes nothing.
use Rattle.rules.specs.declared.types.Cause.{Cause}
use Prim.Native.Nat.{ℕ, suc}
use native.Mathlib.Omega.{arith}
use mathlib.Core.Bool.{Bool, true, not}
use Rattle.std.specs.Prelude.{Option, None, Some, option_map}
use Rattle.std.proofs.lemmas.Option.{none-some}
use mathlib.Core.List.{List, [], ◌∷◌, ◌++◌}
use mathlib.Core.Path.{◌≡◌, refl, ap, sym}
use borrow.Author.Tests.{leb-true, le-leb, not-true}
use lib.ListN.{length, length-append}
use Rattle.std.specs.List.{list_all}
use Rattle.rules.specs.Bytes.{line_feed}
use Rattle.rules.specs.declared.types.Edition.{Edition}
use Rattle.rules.specs.Converting.{converted_line, first_some, first_refused, line_tests, converted_tests}
use Rattle.rules.proofs.Basics.Tests.{and_left, and_right}
use Rattle.rules.proofs.Soundness.Accepted.{AllPassed, first_failed_none, all_passed}
use Rattle.rules.proofs.Listings.Cut.{other_than, each}
use Rattle.rules.proofs.Converting.Lines.{recast, recast_ended, Accepted}

-- ---- none of several

module _ {A : Type 0} where
  abbrev pub AllNone : List (Option A) → Type 0
  AllNone [] = Unit {0}
  AllNone (o ∷ os) = (o ≡ None) × AllNone os

  pub first_none : (os : List (Option A)) → first_some os ≡ None → AllNone os
  unfolding first_some
  first_none [] h = tt
  first_none (None ∷ os) h = (refl, first_none os h)
  first_none (Some a ∷ os) h = absurd (none-some _ (sym h))

  pub none_first : (os : List (Option A)) → AllNone os → first_some os ≡ None
  unfolding first_some
  none_first [] h = refl
  none_first (o ∷ os) h = rw h.0 (none_first os h.1)

pub map_none : {A B : Type 0} (f : A → B) (o : Option A) → option_map f o ≡ None → o ≡ None
map_none f None h = refl
map_none f (Some a) h = absurd (none-some _ (sym h))

-- ---- line by line

abbrev pub EachLine : (List ℕ → Type 0) → List (List ℕ) → Type 0
EachLine P [] = Unit {0}
EachLine P (line ∷ lines) = P line × EachLine P lines

refused_none : (tests : List ℕ → List (Bool × Cause)) (n : ℕ) (lines : List (List ℕ)) → first_refused tests n lines ≡ None
    → EachLine (λ line. AllPassed (tests line)) lines
unfolding first_refused
refused_none tests n [] h = tt
refused_none tests n (line ∷ lines) h =
    let both = first_none _ h in
    (first_failed_none (tests line) (map_none _ _ both.0), refused_none tests (suc n) lines both.1.0)

none_refused : (tests : List ℕ → List (Bool × Cause)) (n : ℕ) (lines : List (List ℕ)) → EachLine (λ line. AllPassed (tests line)) lines
    → first_refused tests n lines ≡ None
unfolding first_refused
none_refused tests n [] h = refl
none_refused tests n (line ∷ lines) h =
    none_first _ (ap (option_map (λ cause. (n, cause))) (all_passed (tests line) h.0), (none_refused tests (suc n) lines h.1, tt))

module _ (e : Edition) where
  recast_length : (line : List ℕ) → length (converted_line e line) ≡ suc (length (recast e line))
  recast_length line =
      let q : length (converted_line e line) ≡ length (recast e line ++ line_feed ∷ []) = ap length (recast_ended e line) in
      omega (arith, length-append (recast e line) (line_feed ∷ []))

  accepted_line : (line : List ℕ) → list_all (other_than line_feed) line ≡ true → AllPassed (line_tests e line) → AllPassed (converted_tests e line)
      → Accepted e line
  unfolding line_tests converted_tests
  accepted_line line w t c =
      record {
        one_line = w;
        short = leb-true _ _ t.0;
        known = t.1.0;
        no_i = not-true _ t.1.1.0;
        still_short = omega (arith, leb-true _ _ c.0, recast_length line);
      }

  passed_line : (line : List ℕ) → Accepted e line → AllPassed (line_tests e line)
  unfolding line_tests
  passed_line line a = (le-leb _ _ a.short, (a.known, (ap not a.no_i, tt)))

  passed_converted : (line : List ℕ) → Accepted e line → AllPassed (converted_tests e line)
  unfolding converted_tests
  passed_converted line a = (le-leb _ _ (omega (arith, a.still_short, recast_length line)), tt)

  pub lines_accepted : (n : ℕ) (lines : List (List ℕ)) → each (other_than line_feed) lines ≡ true → first_refused (line_tests e) n lines ≡ None
      → first_refused (converted_tests e) n lines ≡ None → EachLine (Accepted e) lines
  lines_accepted n lines w t c = go lines w (refused_none _ n lines t) (refused_none _ n lines c)
    where
      go : (ls : List (List ℕ)) → each (other_than line_feed) ls ≡ true → EachLine (λ line. AllPassed (line_tests e line)) ls
          → EachLine (λ line. AllPassed (converted_tests e line)) ls → EachLine (Accepted e) ls
      go [] w t c = tt
      go (l ∷ ls) w t c = (accepted_line l (and_left _ _ w) t.0 c.0, go ls (and_right (list_all (other_than line_feed) l) _ w) t.1 c.1)

each_imp : (P Q : List ℕ → Type 0) (lines : List (List ℕ)) → ((line : List ℕ) → P line → Q line) → EachLine P lines → EachLine Q lines
each_imp P Q [] f h = tt
each_imp P Q (line ∷ lines) f h = (f line h.0, each_imp P Q lines f h.1)

pub none_of_lines : (e : Edition) (n : ℕ) (lines : List (List ℕ)) → EachLine (Accepted e) lines
    → (first_refused (line_tests e) n lines ≡ None) × (first_refused (converted_tests e) n lines ≡ None)
none_of_lines e n lines h = (
  none_refused _ n lines (each_imp _ _ lines (passed_line e) h),
  none_refused _ n lines (each_imp _ _ lines (passed_converted e) h),
)
