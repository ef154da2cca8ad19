-- `count_blocks` meets its contract: there are few blocks, so that their count fits. Assumes nothing.
use native.Mathlib.Omega.{arith}
use mathlib.Core.Logic.{inl}
use mathlib.Core.Path.{ap}
use lib.ListN.{length}
use Rattle.layout.specs.Reading.{store_in}
use Rattle.keys.proofs.CountBytes.{listed_few}
use Rattle.keys.proofs.counts.count_blocks.Goals as goal

pub count-requires-clause-fits : goal.count-requires-clause-fits
count-requires-clause-fits c =
    inl (omega (arith, ap length c.new.ensures, listed_few (store_in c.args.store.now) c.requires.sound.ruled c.args.blocks))
