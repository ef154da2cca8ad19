-- `write_copies` meets its contract: the copies of what the steps before tell of are written. Assumes nothing.
use Rattle.rules.specs.Fragments.{steps}
use Rattle.rules.specs.declared.types.Sort.TheVariants.{Op as op}
use Rattle.layout.specs.Reading.{store_in}
use Rattle.copying.specs.Partial.{Partial}
use Rattle.copying.proofs.Told.{owners_done}
use Rattle.copying.proofs.writing.write_copies.Given as goal

abbrev pub invariant-loop-step : goal.invariant-loop-step
invariant-loop-step l =
    Partial l.initial.store l.n l.parent (owners_done (steps (store_in l.initial.store) op l.n) l.step-index) l.store
