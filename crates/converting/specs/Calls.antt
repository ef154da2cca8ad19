-- What the offered function gives for every listing and all lent bytes.
use Rattle.std.specs.Prelude as std
use Rattle.std.specs.Prelude.{ℕ, ◌<◌, ◌≤◌, List, ◌≡◌, length}
use Rattle.rules.specs.Listings.{max_listing}
use Rattle.rules.specs.Converting.{convert}
use Rattle.lines.specs.Writing.{WritesAt}
use Rattle.converting.specs.declared.types.NoRoom.{NoRoom}

-- with room enough exactly what the rules print is written, from the start of the lent bytes on, and n is how many bytes that are; with less
-- every byte is as it was
unfoldable pub ConverterAnswers : List ℕ → List ℕ → List ℕ → std.Result ℕ NoRoom → Type 0
ConverterAnswers listing before after (std.Ok n) = (max_listing ≤ length before) × WritesAt max_listing before after 0 (convert listing) n
ConverterAnswers listing before after (std.Err no_room) = (length before < max_listing) × (after ≡ before)
