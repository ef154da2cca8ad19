-- What is put into the rest of a lent key.
use Rattle.std.specs.Prelude.{ℕ, ◌+◌, ◌-◌, ◌^◌, ◌≤◌, min, List, ◌++◌, ◌≡◌, length, take, drop}
use Rattle.std.specs.List.{flat_map}
use Rattle.rules.specs.Store.{Store}
use Rattle.rules.specs.declared.types.Owner.{Owner}
use Rattle.rules.specs.declared.types.Attribute.{Attribute}
use Rattle.rules.specs.Shells.{shell_of, unignored_location}
use Rattle.rules.specs.declared.types.Ignore.{Ignore}
use Rattle.rules.specs.Hash.{count, location_bytes, attribute_bytes, head_bytes, shell_bytes}
use Rattle.layout.specs.Columns.{Cols}
use Rattle.fragments.specs.Ignoring.{kept_from}
use Rattle.fragments.specs.Options.{Options, renamed_under}
use Rattle.fragments.specs.declared.types.ShellRow.{ShellRow}

-- bytes put at the beginning of the rest of a lent key. The answer is how many they are, up to the largest number there is. So many of them
-- are written, from the first on, and what is behind those is as it was; where all of them fit, all are written
pub record Put (bytes before after : List ℕ) (answer : ℕ) : Type 0 where
  pub many : answer ≡ min (length bytes) (2 ^ 64 - 1)
  pub written : ℕ
  pub of_bytes : written ≤ length bytes
  pub of_rest : written ≤ length before
  pub whole : length bytes ≤ length before → written ≡ length bytes
  pub rest : after ≡ take written bytes ++ drop written before

-- a count is put, if it is the one that is given where it is asked for
abbrev pub PutCounted : (ℕ → Type 0) → List ℕ → List ℕ → ℕ → Type 0
PutCounted given before after answer = (n : ℕ) → ((r : ℕ) → given r → r ≡ n) → Put (count n) before after answer

-- ---- lists

-- the attributes that are kept of a row
abbrev pub row_kept : Cols → Ignore → ShellRow → List Attribute
row_kept C ig r = kept_from C ig r.slot (r.slot + r.attributes)

-- the location and the attributes of a row: what it puts but for types
unfoldable pub place_bytes : Cols → Ignore → ShellRow → List ℕ
place_bytes C ig r = location_bytes (unignored_location ig r.location) ++ (count (length (row_kept C ig r)) ++ flat_map attribute_bytes (row_kept C ig r))

-- what an operation or a block puts of itself
unfoldable pub owner_bytes : Store → Options → Owner → List ℕ
owner_bytes s o w = head_bytes (renamed_under o s) w ++ shell_bytes count (shell_of (renamed_under o s) o.ignore w)
