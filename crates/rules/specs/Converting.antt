-- 02, order 14: the converter, from the bytes of a listing to those of the same listing in the other edition. It "makes no building calls and
-- reads the whole listing before it writes; a refusal prints document 01's refused line alone."
use Rattle.rules.specs.declared.types.Cause.{Cause}
use Rattle.rules.specs.declared.types.Cause.TheVariants.{BadLine, BadLength, InherentLine}
use Rattle.std.specs.Prelude.{ℕ, suc, ◌+◌, Bool, false, cond, not, List, [], ◌∷◌, ◌++◌, leb, length, take, drop, Option, None, Some, option_map, is_some}
use Prim.Native.String.{String}
use Rattle.std.specs.List.{flat_map}
use Rattle.rules.specs.Building.{first_failed}
use Rattle.rules.specs.Bytes.{text, is_text, line_feed, cut_at}
use Rattle.rules.specs.Lines.{fields_of, parse}
use Rattle.rules.specs.declared.types.Edition.{Edition}
use Rattle.rules.specs.declared.types.Edition.TheVariants.{First as edition_1, Second as edition_2}
use Rattle.rules.specs.Listings.{printed, refusal, max_line, max_listing, listing_cause, behind_first, edition}

-- ---- what is written

-- "The header read says which way, and the other edition's header is written"
unfoldable pub other : Edition → Edition
other edition_1 = edition_2
other edition_2 = edition_1

unfoldable pub header : Edition → List ℕ
header edition_1 = text "opstore,1"
header edition_2 = text "opstore,2"

-- the first field is this letter
unfoldable pub begins : String → List (List ℕ) → Bool
begins w [] = false
begins w (f ∷ fs) = is_text w f

-- "from 1 to 2, dropping labels, and from 2 to 1, writing label 0": the third field of a `b` line, by the edition read
unfoldable pub relabelled : Edition → List (List ℕ) → List (List ℕ)
relabelled edition_1 fs = take 2 fs ++ drop 3 fs
relabelled edition_2 fs = take 2 fs ++ text "0" ∷ drop 2 fs

-- with the line feed that ends it; "other lines are copied"
unfoldable pub converted_line : Edition → List ℕ → List ℕ
converted_line e line = cond (begins "b" (fields_of line)) (printed (relabelled e (fields_of line))) (line ++ line_feed ∷ [])

unfoldable pub lines_behind : List ℕ → List (List ℕ)
lines_behind bytes = behind_first (cut_at line_feed bytes).whole

unfoldable pub converted : List ℕ → List ℕ
converted bytes = header (other (edition bytes)) ++ line_feed ∷ flat_map (converted_line (edition bytes)) (lines_behind bytes)

-- ---- what is refused, and at which line

abbrev pub Refusal : Type 0
Refusal = Option (ℕ × Cause)

unfoldable pub first_some : {A : Type 0} → List (Option A) → Option A
first_some [] = None
first_some (None ∷ os) = first_some os
first_some (Some a ∷ os) = Some a

-- the first of these lines, from number n on, that fails one of its tests
unfoldable pub first_refused : (List ℕ → List (Bool × Cause)) → ℕ → List (List ℕ) → Refusal
first_refused tests n [] = None
first_refused tests n (line ∷ lines) = first_some (option_map (λ cause. (n, cause)) (first_failed (tests line)) ∷ first_refused tests (suc n) lines ∷ [])

-- "20, after 10, with its line, for an `i` line on the way from 2 to 1": in edition 1 such a line means nothing
unfoldable pub line_tests : Edition → List ℕ → List (Bool × Cause)
line_tests e line = (leb (length line) max_line, BadLength) ∷ (is_some (parse e line), BadLine) ∷ (not (begins "i" (fields_of line)), InherentLine) ∷ []

-- the bytes behind the last line feed
unfoldable pub unended : ℕ → List ℕ → Refusal
unended n [] = None
unended n (x ∷ rest) = Some (n, BadLength)

-- "Converted text past a length limit is refused by 11 with the line it came from, or line 1 for the whole"
unfoldable pub whole_refused : List ℕ → Refusal
whole_refused out = cond (leb (length out) max_listing) None (Some (1, BadLength))

unfoldable pub converted_tests : Edition → List ℕ → List (Bool × Cause)
converted_tests e line = (leb (length (converted_line e line)) (suc max_line), BadLength) ∷ []

-- "the whole is tested first, and both after every line has passed the other tests"
unfoldable pub convert_refusal : List ℕ → Refusal
convert_refusal bytes =
    first_some
    (option_map (λ cause. (1, cause)) (listing_cause bytes)
    ∷ first_refused (line_tests (edition bytes)) 2 (lines_behind bytes)
    ∷ unended (2 + length (lines_behind bytes)) (cut_at line_feed bytes).rest
    ∷ whole_refused (converted bytes)
    ∷ first_refused (converted_tests (edition bytes)) 2 (lines_behind bytes)
    ∷ [])

-- ---- the converter

unfoldable pub unless_refused : Refusal → List ℕ → List ℕ
unless_refused None out = out
unless_refused (Some r) out = refusal r.0 r.1

unfoldable pub convert : List ℕ → List ℕ
convert bytes = unless_refused (convert_refusal bytes) (converted bytes)
