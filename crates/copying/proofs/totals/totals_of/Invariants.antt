-- With what is left of the owners added, the totals so far are those of the whole operation. Assumes nothing.
use Rattle.std.proofs.Common.{◌≡◌}
use Rattle.rules.specs.Fragments.{steps}
use Rattle.rules.specs.declared.types.Sort.TheVariants.{Op as op}
use Rattle.layout.specs.Columns.{columns}
use Rattle.layout.specs.Reading.{store_in}
use Rattle.copying.specs.Totals.{owners_totalled, totalled}
use Rattle.copying.proofs.Told.{owners_left}
use Rattle.copying.proofs.totals.totals_of.Given as goal

abbrev pub invariant-loop-step : goal.invariant-loop-step
invariant-loop-step l =
    owners_totalled (columns l.original.store.now) l.sum (owners_left (steps (store_in l.original.store.now) op l.original.n) l.step-index) ≡ totalled (columns l.original.store.now) l.original.n
