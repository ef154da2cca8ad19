-- What is known of a listing before anything is written: which line is refused, and how long the converted text is.
use Rattle.rules.specs.declared.types.Cause.TheVariants.{BadLength}
use Rattle.rules.specs.declared.types.Cause.{Cause}
use Rattle.std.specs.Prelude as std
use Rattle.std.specs.Prelude.{ℕ, ◌+◌, ◌≤◌, cond, List, [], ◌∷◌, IfOk, ◌++◌, ◌≡◌, leb, length, Option, None, Some, option_map}
use Rattle.std.specs.List.{flat_map}
use Rattle.rules.specs.Building.{first_failed}
use Rattle.rules.specs.Bytes.{line_feed, cut_at}
use Rattle.rules.specs.Lines as rules
use Rattle.rules.specs.Listings.{max_listing}
use Rattle.rules.specs.Converting.{converted_line, lines_behind, first_some, first_refused, line_tests, unended, converted_tests, convert_refusal}
use Rattle.lines.specs.Header.{second_line, StartsWithHeader}
use Rattle.rules.specs.declared.types.Edition.{Edition}
use Rattle.converting.specs.declared.types.Refusal.{Refusal}
use Rattle.converting.specs.declared.types.Sizes.{Sizes}

-- ---- refusals

-- the line that is refused and its cause, if one is
unfoldable pub refusal_of : {A : Type 0} → std.Result A Refusal → Option (ℕ × Cause)
refusal_of (std.Ok a) = None
refusal_of (std.Err r) = Some (r.line, r.cause)

-- the first of these tests that a line with this number fails
abbrev pub refused_by : List (std.Bool × Cause) → ℕ → Option (ℕ × Cause)
refused_by tests n = option_map (λ cause. (n, cause)) (first_failed tests)

-- ---- sizes

-- a line that is too long when it is converted
abbrev pub long_line : std.Option ℕ → Option (ℕ × Cause)
long_line std.None = None
long_line (std.Some n) = Some (n, BadLength)

-- the sizes of the header and of these lines behind it
pub record Sized (e : Edition) (lines : List (List ℕ)) (s : Sizes) : Type 0 where
  pub whole : s.whole ≡ second_line + length (flat_map (converted_line e) lines)
  pub too_long : long_line s.too_long ≡ first_refused (converted_tests e) 2 lines

-- with one line more
pub record Longer (e : Edition) (line : List ℕ) (n : ℕ) (s t : Sizes) : Type 0 where
  pub whole : t.whole ≡ s.whole + length (converted_line e line)
  pub too_long : long_line t.too_long ≡ first_some (long_line s.too_long ∷ refused_by (converted_tests e line) n ∷ [])
  pub most : t.whole ≤ s.whole + length line + 3

-- ---- what is answered

-- a line with this number, behind others of these sizes
pub record TestedLine (e : Edition) (line : List ℕ) (n : ℕ) (s : Sizes) (r : std.Result Sizes Refusal) : Type 0 where
  pub refused : refusal_of r ≡ refused_by (line_tests e line) n
  pub sized : IfOk r (Longer e line n s)

-- all lines behind the first
pub record TestedLines (e : Edition) (listing : List ℕ) (r : std.Result Sizes Refusal) : Type 0 where
  pub refused :
      refusal_of r
      ≡ first_some
      (first_refused (line_tests e) 2 (lines_behind listing)
      ∷ unended (2 + length (lines_behind listing)) (cut_at line_feed listing).rest
      ∷ [])
  pub sized : IfOk r (Sized e (lines_behind listing))

-- the sizes: "the whole is tested first"
unfoldable pub too_much : Sizes → Option (ℕ × Cause)
too_much s = first_some (cond (leb s.whole max_listing) None (Some (1, BadLength)) ∷ long_line s.too_long ∷ [])

-- the whole listing
pub record Tested (listing : List ℕ) (r : std.Result Edition Refusal) : Type 0 where
  pub refused : refusal_of r ≡ convert_refusal listing
  pub begun : IfOk r (λ e. StartsWithHeader e listing)
