-- The first line of a listing: what it says, and where the second begins.
use Rattle.std.specs.Prelude as std
use Rattle.std.specs.Prelude.{ℕ, ◌≤◌, List, ◌≡◌, IfOk, length}
use Rattle.rules.specs.Bytes.{line_feed, cut_at}
use Rattle.rules.specs.Listings.{edition, listing_cause, behind_first, max_listing}
use Rattle.rules.specs.Causes.{cause_of}
use Rattle.rules.specs.declared.types.Cause.{Cause}
use Rattle.lines.specs.Pieces.{pieces_from}
use Rattle.rules.specs.declared.types.Edition.{Edition}

-- where the second line begins: behind the nine bytes of either header and their line feed
abbrev pub second_line : ℕ
second_line = 10

-- the first line is the header of this edition, and the lines behind it begin there
pub record StartsWithHeader (e : Edition) (listing : List ℕ) : Type 0 where
  pub says : edition listing ≡ e
  pub long : second_line ≤ length listing
  pub short : length listing ≤ max_listing
  pub lines : behind_first (cut_at line_feed listing).whole ≡ (pieces_from line_feed listing second_line).whole
  pub rest : (cut_at line_feed listing).rest ≡ (pieces_from line_feed listing second_line).rest

-- why no line behind the first is read; else it is a header
pub record Headed (listing : List ℕ) (r : std.Result Edition Cause) : Type 0 where
  pub same : cause_of r ≡ listing_cause listing
  pub begun : IfOk r (λ e. StartsWithHeader e listing)
