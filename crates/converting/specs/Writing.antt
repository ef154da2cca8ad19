-- What can be written: a listing of which no line is refused.
use Rattle.std.specs.Prelude.{ℕ, ◌≤◌, List, [], ◌≡◌, length}
use Rattle.std.specs.List.{flat_map}
use Rattle.rules.specs.Bytes.{line_feed, cut_at}
use Rattle.rules.specs.declared.types.Edition.{Edition}
use Rattle.rules.specs.Listings.{max_listing}
use Rattle.rules.specs.Converting.{converted_line, lines_behind, converted}
use Rattle.lines.specs.Header.{StartsWithHeader}

-- the lines behind the first, converted
abbrev pub converted_lines : Edition → List ℕ → List ℕ
converted_lines e listing = flat_map (converted_line e) (lines_behind listing)

-- a line feed ends its last line, and it has room where any listing has
pub record Convertible (e : Edition) (listing : List ℕ) : Type 0 where
  pub begun : StartsWithHeader e listing
  pub ended : (cut_at line_feed listing).rest ≡ []
  pub fits : length (converted listing) ≤ max_listing
