-- The fields of a line that are left to be read.
use Rattle.std.specs.Prelude.{ℕ, ◌+◌, ◌≤◌, List, [], ◌∷◌, ◌≡◌, length, drop, nat_lt, if◌then◌else◌}
use Rattle.rules.specs.Lines.{fields_of}

-- those from a position on; none behind the line's end
abbrev pub fields_left : List ℕ → ℕ → List (List ℕ)
fields_left line at = if nat_lt (length line) at then [] else fields_of (drop at line)

-- f is the field at a position: those left there are f and then those that begin one byte behind it
pub record FieldRead (line : List ℕ) (at : ℕ) (f : List ℕ) : Type 0 where
  pub within : at + length f ≤ length line
  pub fields : fields_left line at ≡ f ∷ fields_left line (at + length f + 1)
