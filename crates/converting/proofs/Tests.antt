-- The code's tests are the rules', in their order. Assumes nothing.
use Rattle.rules.specs.declared.types.Cause.TheVariants.{BadLength, InherentLine, BadLine}
use Prim.Native.Nat.{ℕ, suc, ◌+◌, ◌<◌, ◌≤◌}
use native.Mathlib.Omega.{arith}
use mathlib.Core.Bool.{Bool, true, false, not}
use mathlib.Core.List.{List, [], ◌∷◌}
use mathlib.Core.Path.{◌≡◌, refl, sym, ap, ◌∙◌}
use Rattle.std.specs.Prelude.{None, Some, option_map, is_some}
use borrow.Author.Tests.{le-leb, lt-leb, ltb-true, ltb-false}
use lib.Dec.{leb, ltb}
use lib.ListN.{length}
use Rattle.std.specs.Prelude as std
use Rattle.rules.specs.Building.{first_failed}
use Rattle.rules.specs.Lines.{fields_of, parse}
use Rattle.rules.specs.declared.types.Edition.{Edition}
use Rattle.rules.specs.Listings.{max_line, max_listing}
use Rattle.rules.specs.Converting.{begins, converted_line, first_some, line_tests, converted_tests}
use Rattle.rules.specs.Causes.{cause_of}
use Rattle.rules.specs.declared.types.Cause.{Cause}
use Rattle.std.specs.Option.{option_or}
use Rattle.std.specs.Bool.{then_some}
use Rattle.converting.specs.declared.types.Sizes.{Sizes}
use Rattle.converting.specs.Testing.{refusal_of, refused_by, long_line, Longer, TestedLine, too_much}

-- ---- a line

module _ (e : Edition) (line : List ℕ) where
  by_tests : (a b c : Bool) → leb (length line) max_line ≡ a → is_some (parse e line) ≡ b → begins "i" (fields_of line) ≡ c
      → first_failed (line_tests e line) ≡ first_failed ((a, BadLength) ∷ (b, BadLine) ∷ (not c, InherentLine) ∷ [])
  unfolding line_tests
  by_tests a b c p q r = rw (p, q, r) refl

  pub line_long : max_line < length line → Some BadLength ≡ first_failed (line_tests e line)
  unfolding first_failed
  line_long h = sym (by_tests false _ _ (lt-leb _ max_line h) refl refl)

  module _ (h : length line ≤ max_line) where
    pub line_bad : is_some (parse e line) ≡ false → Some BadLine ≡ first_failed (line_tests e line)
    unfolding first_failed
    line_bad q = sym (by_tests true false _ (le-leb _ max_line h) q refl)

    pub line_inherent : is_some (parse e line) ≡ true → begins "i" (fields_of line) ≡ true → Some InherentLine ≡ first_failed (line_tests e line)
    unfolding first_failed
    line_inherent q r = sym (by_tests true true true (le-leb _ max_line h) q r)

    pub line_passes : is_some (parse e line) ≡ true → begins "i" (fields_of line) ≡ false → None ≡ first_failed (line_tests e line)
    unfolding first_failed
    line_passes q r = sym (by_tests true true false (le-leb _ max_line h) q r)

-- ---- the sizes of the lines so far, with one line more

at_most : (m k : ℕ) → not (ltb m k) ≡ leb k m
at_most m k = go (ltb m k) refl
  where
    go : (t : Bool) → ltb m k ≡ t → not t ≡ leb k m
    go true h = sym (lt-leb k m (ltb-true m k h))
    go false h = sym (le-leb k m (ltb-false m k h))

module _ (e : Edition) (line : List ℕ) (n : ℕ) (s : Sizes) where
  refused : (k : Cause) → cause_of {A = Unit {0}} (std.Err k) ≡ first_failed (line_tests e line)
      → TestedLine e line n s (std.Err (record { line = n; cause = k }))
  unfolding cause_of refusal_of
  refused k h = record { refused = ap (option_map (λ cause. (n, cause))) h; sized = tt }

  pub line_refused : (k : Cause) (r : std.Result (Unit {0}) Cause) → cause_of r ≡ first_failed (line_tests e line) → r ≡ std.Err k
      → TestedLine e line n s (std.Err (record { line = n; cause = k }))
  line_refused k r h q = refused k (ap cause_of (sym q) ∙ h)

  -- the first of two refusals, where there are any
  first_of_two : (long : Bool) (o : std.Option ℕ)
      → long_line (option_or o (then_some long n)) ≡ first_some (long_line o ∷ refused_by ((not long, BadLength) ∷ []) n ∷ [])
  unfolding first_some first_failed
  first_of_two true std.None = refl
  first_of_two true (std.Some m) = refl
  first_of_two false std.None = refl
  first_of_two false (std.Some m) = refl

  one_longer : (k : ℕ) (o : std.Option ℕ) → k ≡ length (converted_line e line) → k ≤ length line + 3
      → o ≡ option_or s.too_long (then_some (ltb (suc max_line) k) n) → Longer e line n s (record { whole = s.whole + k; too_long = o })
  unfolding converted_tests
  one_longer k o l most t =
      record {
        whole = ap (λ (j : ℕ). s.whole + j) l;
        too_long =
            ap long_line t
            ∙ first_of_two (ltb (suc max_line) k) s.too_long
            ∙ ap (λ (b : Bool). first_some (long_line s.too_long ∷ refused_by ((b, BadLength) ∷ []) n ∷ []))
            (at_most (suc max_line) k ∙ ap (λ (j : ℕ). leb j (suc max_line)) l);
        most = omega arith;
      }

  pub line_passed : (r : std.Result (Unit {0}) Cause) (k : ℕ) (o : std.Option ℕ) → cause_of r ≡ first_failed (line_tests e line) → r ≡ std.Ok tt
      → k ≡ length (converted_line e line) → k ≤ length line + 3 → o ≡ option_or s.too_long (then_some (ltb (suc max_line) k) n)
      → TestedLine e line n s (std.Ok (record { whole = s.whole + k; too_long = o }))
  unfolding refusal_of cause_of
  line_passed r k o h q l most t =
      record {
        refused = ap (option_map (λ cause. (n, cause))) (ap cause_of (sym q) ∙ h);
        sized = one_longer k o l most t;
      }

-- ---- the sizes

module _ (s : Sizes) where
  pub whole_long : max_listing < s.whole → Some (1, BadLength) ≡ too_much s
  unfolding too_much first_some
  whole_long h = rw (lt-leb s.whole max_listing h) refl

  module _ (h : s.whole ≤ max_listing) where
    pub sizes_are : (l : std.Option ℕ) → s.too_long ≡ l → long_line l ≡ too_much s
    unfolding too_much first_some
    sizes_are l q = rw (le-leb s.whole max_listing h, q) (only l)
      where
        only : (l : std.Option ℕ) → long_line l ≡ first_some (long_line l ∷ [])
        only std.None = refl
        only (std.Some n) = refl
