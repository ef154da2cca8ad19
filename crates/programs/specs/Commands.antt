-- What each program prints for a listing.
use Rattle.std.specs.Prelude.{ℕ, List}
use Rattle.rules.specs.Listings.{twins, sums}
use Rattle.rules.specs.Converting.{convert}
use Rattle.programs.specs.declared.commands.Command.{Command}
use Rattle.programs.specs.declared.commands.Command.TheVariants.{Twins, Sums, Convert}

unfoldable pub output_of : Command → List ℕ → List ℕ
output_of Twins bytes = twins bytes
output_of Sums bytes = sums bytes
output_of Convert bytes = convert bytes
