-- What the calls for extents give: the rules' answers, for every buffer, ignore rule and number.
use Rattle.std.specs.Prelude.{ℕ}
use Rattle.std.specs.Prelude as std
use Rattle.rules.specs.Extents as rules
use Rattle.rules.specs.declared.types.Cause.{Cause}
use Rattle.keys.specs.declared.types.Extent.{Extent}

-- bytes, values, blocks, operations, nesting
unfoldable pub of_numbers : ℕ → ℕ → ℕ → ℕ → ℕ → rules.Extent
of_numbers bytes values blocks ops nesting = record { bytes = bytes; values = values; blocks = blocks; ops = ops; nesting = nesting }

-- the rules' numbers, each by its name
unfoldable pub extent_means : Extent → rules.Extent
extent_means e = of_numbers e.bytes e.values e.blocks e.operations e.nesting

-- the rules' answer for each case
unfoldable pub sized_of : std.Result Extent Cause → rules.Sized
sized_of (std.Ok e) = rules.extent_is (extent_means e)
sized_of (std.Err cause) = rules.refused_extent cause
