-- How far a program is: what the code holds of it, as the rules' progress.
use Rattle.std.specs.Prelude.{ℕ, List}
use Rattle.rules.specs.Listings as rules
use Rattle.rules.specs.Listings.{twins_program, sums_program}
use Rattle.layout.specs.Reading.{store_in}
use Rattle.listing.specs.Tally.{tally_of}
use Rattle.listing.specs.declared.places.Place.{Place}
use Rattle.listing.specs.declared.types.Program.{Program}
use Rattle.listing.specs.declared.types.Program.TheVariants.{Twins, Sums}

unfoldable pub program_of : Program → rules.Program
program_of Twins = twins_program
program_of Sums = sums_program

-- the words of the store, and the places of the tally
unfoldable pub progress_of : List ℕ → List Place → rules.Progress
progress_of store tally = record { store = store_in store; tally = tally_of tally }
