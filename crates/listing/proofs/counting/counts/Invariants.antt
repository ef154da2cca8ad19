-- `counts` meets its contract: the two counts so far are of the places that were passed. Assumes nothing.
use Rattle.std.proofs.Common.{◌≡◌, take}
use Rattle.std.specs.List.{count_by}
use Rattle.listing.specs.Tally.{is_equal, is_inside}
use Rattle.listing.proofs.counting.counts.Given as goal

abbrev pub invariant-loop-place : goal.invariant-loop-place
invariant-loop-place l = (l.equal ≡ count_by is_equal (take l.place-index l.tally)) × (l.all ≡ count_by is_inside (take l.place-index l.tally))
