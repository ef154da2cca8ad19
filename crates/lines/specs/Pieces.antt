-- Where a piece ends.
use Rattle.std.specs.Prelude.{ℕ, ◌+◌, ◌<◌, ◌≤◌, List, [], ◌∷◌, ◌≡◌, length, drop}
use Rattle.rules.specs.Bytes.{Pieces, cut_at}
use Rattle.layout.specs.Reading.{slice}

-- the pieces of the bytes from a position on
unfoldable pub pieces_from : ℕ → List ℕ → ℕ → Pieces
pieces_from b bytes at = cut_at b (drop at bytes)

-- the piece that begins at `from` ends at e; where all bytes end there, it is the rest, which no dividing byte ends
pub record PieceEnd (bytes : List ℕ) (from b e : ℕ) : Type 0 where
  pub behind : from ≤ e
  pub within : e ≤ length bytes
  pub ended : e < length bytes → pieces_from b bytes from ≡ record { whole = slice bytes from e ∷ (pieces_from b bytes (e + 1)).whole; rest = (pieces_from b bytes (e + 1)).rest }
  pub unended : length bytes ≤ e → pieces_from b bytes from ≡ record { whole = []; rest = drop from bytes }
