-- `enter_copies` meets its contract: what is left to enter, entered in the mapping as it is with the next numbers, is the whole mapping of the copy.
-- Assumes nothing.
use Rattle.layout.specs.Reading.{store_in}
use Rattle.copying.proofs.Imaged.{Entering}
use Rattle.copying.proofs.images.enter_copies.Given as goal

abbrev pub invariant-loop-step : goal.invariant-loop-step
invariant-loop-step l = Entering (store_in l.original.store.now) l.original.n l.step-index l.next l.mapping
