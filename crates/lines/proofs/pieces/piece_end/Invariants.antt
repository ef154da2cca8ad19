-- `piece_end` meets its contract: the bytes that were passed are not the one at which a piece ends, and so belong to one. Assumes nothing.
use Rattle.layout.specs.Reading.{slice}
use Rattle.rules.proofs.Listings.Cut.{Without}
use Rattle.lines.proofs.pieces.piece_end.Given as goal

abbrev pub invariant-loop-e : goal.invariant-loop-e
invariant-loop-e l = Without l.byte (slice l.bytes l.from l.e)
