-- `value_in_time` meets its contract: a value that has a walk number is numbered, and another one comes in time where it lies outside. Assumes nothing.
use Rattle.rules.specs.Fragments.{defines_values}
use Rattle.layout.specs.Reading.{store_in}
use Rattle.copying.proofs.InTime.{numbered_timely, unnumbered_timely}
use Rattle.copying.proofs.early.value_in_time.Goals as goal

pub returns-in-WalkNumber : goal.returns-in-WalkNumber
returns-in-WalkNumber c =
    λ N h. numbered_timely (defines_values (store_in c.args.whole.now.store.now) c.args.whole.now.sort c.args.whole.now.n) N.values c.args.v (c.value_name.ensures N h) c.in-WalkNumber.is

pub returns-in-StoreNumber : goal.returns-in-StoreNumber
returns-in-StoreNumber c =
    λ N h.
    unnumbered_timely (defines_values (store_in c.args.whole.now.store.now) c.args.whole.now.sort c.args.whole.now.n) N.values c.args.v (c.value_name.ensures N h) c.in-StoreNumber.is c.value_inside.ensures
