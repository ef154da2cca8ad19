-- Order 14: what is proved of converted listings.
use Rattle.std.specs.Prelude.{ℕ, ◌≤◌, cond, List, [], ◌∷◌, ◌++◌, ◌≡◌, length, take, drop, None}
use Rattle.std.specs.List.{flat_map}
use Rattle.rules.specs.Bytes.{text, line_feed}
use Rattle.rules.specs.Lines.{fields_of}
use Rattle.rules.specs.declared.types.Edition.TheVariants.{First as edition_1, Second as edition_2}
use Rattle.rules.specs.Listings.{printed, Program, listed, store_after, max_listing, listing_cause, edition}
use Rattle.rules.specs.Converting.{other, header, begins, lines_behind, convert_refusal, convert}

-- the converter refuses nothing of it
abbrev pub Converts : List ℕ → Type 0
Converts bytes = convert_refusal bytes ≡ None

-- what is written is a listing of the other edition: `converted_edition`
unfoldable pub ConvertedEdition : Type 0
ConvertedEdition = (bytes : List ℕ) → Converts bytes → (listing_cause (convert bytes) ≡ None) × (edition (convert bytes) ≡ other (edition bytes))

-- "Converted listings give the same output in both programs, where no line is refused": by the converter. Where a program refuses a line of
-- the one, it refuses that line of the other by the same number, and has built the same store: `same_output`
unfoldable pub SameOutput : Type 0
SameOutput =
    (p : Program) (bytes : List ℕ) → Converts bytes
    → (listed p (convert bytes) ≡ listed p bytes) × (store_after p (convert bytes) ≡ store_after p bytes)

-- a listing of edition 1 with the label 0 in each `b` line, and every other byte as it was
unfoldable pub zeroed_line : List ℕ → List ℕ
zeroed_line line =
    cond (begins "b" (fields_of line)) (printed (take 2 (fields_of line) ++ text "0" ∷ drop 3 (fields_of line))) (line ++ line_feed ∷ [])

unfoldable pub labels_zeroed : List ℕ → List ℕ
labels_zeroed bytes = header edition_1 ++ line_feed ∷ flat_map zeroed_line (lines_behind bytes)

-- from edition 1 and back: labels become 0, and nothing else changes: `there_and_back`
unfoldable pub ThereAndBack : Type 0
ThereAndBack =
    (bytes : List ℕ) → Converts bytes → edition bytes ≡ edition_1
    → Converts (convert bytes) × (convert (convert bytes) ≡ labels_zeroed bytes)

-- from edition 2 and back: the same bytes: `back_and_there`
unfoldable pub BackAndThere : Type 0
BackAndThere = (bytes : List ℕ) → Converts bytes → edition bytes ≡ edition_2 → Converts (convert bytes) × (convert (convert bytes) ≡ bytes)

-- what is printed, a refusal too, fits where a listing does: `convert_fits`
unfoldable pub ConvertFits : Type 0
ConvertFits = (bytes : List ℕ) → length (convert bytes) ≤ max_listing
