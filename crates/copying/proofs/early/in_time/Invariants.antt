-- `in_time` meets its contract: what is left of the steps, with the numbering that the words stand for, tells of them all. Assumes nothing.
use Rattle.rules.specs.Fragments.{steps}
use Rattle.rules.specs.declared.types.Sort.TheVariants.{Op as op}
use Rattle.layout.specs.Reading.{store_in}
use Rattle.copying.proofs.InTime.{TimelyFrom}
use Rattle.copying.proofs.early.in_time.Given as goal

abbrev pub invariant-loop-step : goal.invariant-loop-step
invariant-loop-step l = TimelyFrom (store_in l.original.store.now) l.original.n (steps (store_in l.original.store.now) op l.original.n) l.step-index l.numbers
