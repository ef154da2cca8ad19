-- Which of a line's bytes its converted line is made of.
use Rattle.std.specs.Prelude.{ℕ, ◌+◌, ◌<◌, ◌≤◌, Bool, true, false, List, [], ◌∷◌, ◌++◌, ◌≡◌, length, take, drop}
use Rattle.rules.specs.Bytes.{text, line_feed}
use Rattle.rules.specs.Lines.{fields_of}
use Rattle.rules.specs.declared.types.Edition.{Edition}
use Rattle.rules.specs.Listings.{printed}
use Rattle.rules.specs.Converting.{converted_line}
use Rattle.converting.specs.declared.parts.Parts.{Parts}

-- the first k fields of a line end at e, one byte before they would with a line feed; where that is the line's end it has no more
pub record FieldsEnd (line : List ℕ) (k e : ℕ) : Type 0 where
  pub long : length (printed (take k (fields_of line))) ≡ e + 1
  pub more : e < length line → fields_of (drop (e + 1) line) ≡ drop k (fields_of line)
  pub last : length line ≤ e → drop k (fields_of line) ≡ []

-- what is written between
abbrev pub label_of : Bool → List ℕ
label_of true = text ",0"
label_of false = []

abbrev pub made_of : List ℕ → Parts → List ℕ
made_of line p = take p.front line ++ label_of p.labelled ++ drop p.back line ++ line_feed ∷ []

-- the parts make the converted line
pub record Makes (e : Edition) (line : List ℕ) (p : Parts) : Type 0 where
  pub rising : p.front ≤ p.back
  pub within : p.back ≤ length line
  pub same : converted_line e line ≡ made_of line p
