-- `count_ops` meets its contract: there are few operations, so that their count fits. Assumes nothing.
use native.Mathlib.Omega.{arith}
use mathlib.Core.Logic.{inl}
use mathlib.Core.Path.{ap}
use lib.ListN.{length}
use Rattle.rules.proofs.Keys.Fitting.{ops_few}
use Rattle.layout.specs.Reading.{store_in}
use Rattle.keys.proofs.counts.count_ops.Goals as goal

pub count-requires-clause-fits : goal.count-requires-clause-fits
count-requires-clause-fits c =
    inl (omega (arith, ap length c.new.ensures, ops_few (store_in c.args.store.now) c.requires.sound.ruled c.args.b))
