-- The tests one after the other are the rules': the first line, the lines behind it, the whole, and the lines as they are converted. Assumes
-- nothing.
use Rattle.rules.specs.declared.types.Cause.TheVariants.{BadLength}
use Prim.Native.Nat.{ℕ, ◌+◌}
use native.Mathlib.Omega.{arith}
use mathlib.Core.Bool.{cond}
use mathlib.Core.List.{List, [], ◌∷◌}
use Rattle.std.specs.Prelude.{Option, None, Some, option_map}
use mathlib.Core.Path.{◌≡◌, refl, sym, ap, ap₂, ◌∙◌}
use lib.Dec.{leb}
use lib.ListN.{length, length-append}
use Rattle.std.specs.Prelude as std
use Rattle.std.specs.List.{flat_map}
use Rattle.rules.specs.Bytes.{line_feed, cut_at}
use Rattle.rules.specs.declared.types.Edition.{Edition}
use Rattle.rules.specs.Listings.{max_listing, listing_cause, edition}
use Rattle.rules.specs.Converting.{other, header, converted_line, lines_behind, converted, first_some, first_refused, line_tests, unended, whole_refused, converted_tests, convert_refusal}
use Rattle.rules.proofs.Listings.Headers.{header_length}
use Rattle.rules.specs.Causes.{cause_of}
use Rattle.rules.specs.declared.types.Cause.{Cause}
use Rattle.lines.specs.Header.{StartsWithHeader, Headed}
use Rattle.rules.specs.declared.types.Edition as code
use Rattle.converting.specs.declared.types.Refusal.{Refusal}
use Rattle.converting.specs.declared.types.Sizes.{Sizes}
use Rattle.converting.proofs.LineByLine.{only}
use Rattle.converting.specs.Testing.{refusal_of, Sized, TestedLines, too_much, Tested}

-- ---- the tests in groups

in_groups : {A : Type 0} (a b c d e : Option A)
    → first_some (a ∷ b ∷ c ∷ d ∷ e ∷ []) ≡ first_some (a ∷ first_some (b ∷ c ∷ []) ∷ first_some (d ∷ e ∷ []) ∷ [])
unfolding first_some
in_groups (Some a) b c d e = refl
in_groups None (Some b) c d e = refl
in_groups None None (Some c) d e = refl
in_groups None None None (Some d) e = refl
in_groups None None None None (Some e) = refl
in_groups None None None None None = refl

-- what lines of this edition are refused for, before and after they are converted
abbrev lines_part : List ℕ → Edition → Option (ℕ × Cause)
lines_part listing e =
    first_some
    (first_refused (line_tests e) 2 (lines_behind listing)
    ∷ unended (2 + length (lines_behind listing)) (cut_at line_feed listing).rest
    ∷ [])

abbrev sizes_part : List ℕ → Edition → Option (ℕ × Cause)
sizes_part listing e = first_some (whole_refused (converted listing) ∷ first_refused (converted_tests e) 2 (lines_behind listing) ∷ [])

abbrev header_part : Option Cause → Option (ℕ × Cause)
header_part = option_map (λ cause. (1, cause))

grouped : (listing : List ℕ)
    → convert_refusal listing
    ≡ first_some (header_part (listing_cause listing) ∷ lines_part listing (edition listing) ∷ sizes_part listing (edition listing) ∷ [])
unfolding convert_refusal
grouped listing = in_groups _ _ _ _ _

module _ (listing : List ℕ) where
  pub header_refused : (k : Cause) → Headed listing (std.Err k) → Tested listing (std.Err (record { line = 1; cause = k }))
  unfolding refusal_of cause_of first_some
  header_refused k h =
      record {
        refused =
            sym
            (grouped listing
            ∙ ap (λ o. first_some (header_part o ∷ lines_part listing (edition listing) ∷ sizes_part listing (edition listing) ∷ [])) (sym h.same));
        begun = tt;
      }

  module _ (e : code.Edition) (h : Headed listing (std.Ok e)) where
    pub begun_lem : StartsWithHeader e listing
    begun_lem = h.begun

    -- behind a header
    behind_header : convert_refusal listing ≡ first_some (lines_part listing e ∷ sizes_part listing e ∷ [])
    unfolding cause_of first_some
    behind_header =
        grouped listing
        ∙ ap₂ (λ o (d : Edition). first_some (header_part o ∷ lines_part listing d ∷ sizes_part listing d ∷ [])) (sym h.same) begun_lem.says

    pub lines_refused : (r : Refusal) → TestedLines e listing (std.Err r) → Tested listing (std.Err r)
    unfolding refusal_of first_some
    lines_refused r t =
        record {
          refused = sym (behind_header ∙ ap (λ o. first_some (o ∷ sizes_part listing e ∷ [])) (sym t.refused));
          begun = tt;
        }

    module _ (s : Sizes) (t : TestedLines e listing (std.Ok s)) where
      sized : Sized e (lines_behind listing) s
      sized = t.sized

      whole : s.whole ≡ length (converted listing)
      unfolding converted
      whole =
          let lines = flat_map (converted_line (edition listing)) (lines_behind listing) in
          let same : length (flat_map (converted_line e) (lines_behind listing)) ≡ length lines =
          ap (λ (d : Edition). length (flat_map (converted_line d) (lines_behind listing))) (sym begun_lem.says) in
          omega (
            arith,
            sized.whole,
            same,
            header_length (other (edition listing)),
            length-append (header (other (edition listing))) (line_feed ∷ lines),
          )

      by_sizes : convert_refusal listing ≡ too_much s
      unfolding refusal_of first_some too_much whole_refused
      by_sizes =
          behind_header
          ∙ ap (λ o. first_some (o ∷ sizes_part listing e ∷ [])) (sym t.refused)
          ∙ only (sizes_part listing e)
          ∙ ap₂ (λ (n : ℕ) o. first_some (cond (leb n max_listing) None (Some (1, BadLength)) ∷ o ∷ [])) (sym whole) (sym sized.too_long)

      pub sizes_refused : (r : Refusal) → refusal_of {A = Unit {0}} (std.Err r) ≡ too_much s → Tested listing (std.Err r)
      unfolding refusal_of
      sizes_refused r q = record { refused = q ∙ sym by_sizes; begun = tt }

      pub all_passed : refusal_of {A = Unit {0}} (std.Ok tt) ≡ too_much s → Tested listing (std.Ok e)
      unfolding refusal_of
      all_passed q = record { refused = q ∙ sym by_sizes; begun = begun_lem }
