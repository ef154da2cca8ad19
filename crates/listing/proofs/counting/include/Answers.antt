-- The place becomes the one that is told. Assumes nothing.
use lib.ListN.{set}
use mathlib.Core.Path.{ap}
use Rattle.listing.specs.Tally.{included}
use Rattle.listing.proofs.counting.include.Goals as goal

pub returns : goal.returns
unfolding included
returns c = ap (set c.args.tally.now c.args.n) c.after.ensures
