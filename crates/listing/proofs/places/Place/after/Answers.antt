-- An operation that is found inside is inside, and stays inside an equal one. Assumes nothing.
use mathlib.Core.Path.{sym, ap}
use Rattle.listing.specs.Tally.{place_after}
use Rattle.listing.proofs.Including.{found_inside, only_inside}
use Rattle.listing.proofs.places.Place.after.Goals as goal

pub returns-in-InsideEqual : goal.returns-in-InsideEqual
unfolding place_after
returns-in-InsideEqual c = sym (ap (place_after c.args.found) c.in-InsideEqual.is)

pub returns-in_default : goal.returns-in_default
returns-in_default c = found_inside c.args.found c.args.self c.if-found.true

pub returns-in_default-2 : goal.returns-in_default-2
returns-in_default-2 c = only_inside c.args.found c.args.self c.in_default.not-InsideEqual c.if-found.false
