-- `placed_in` meets its contract: the rows that are read lie below the totals. Assumes nothing.
use native.Mathlib.Omega.{arith}
use Rattle.layout.specs.Columns.{columns}
use Rattle.layout.specs.Reading.{block_count, region_count}
use Rattle.layout.proofs.Laid.{counts_facts}
use Rattle.layout.proofs.row_checks.placed_in.Goals as goal

pub number-region-requires-clause-n_bound : goal.number-region-requires-clause-n_bound
unfolding block_count region_count
number-region-requires-clause-n_bound c = omega (arith, (counts_facts (columns c.args.store.now) c.requires.counts_bounded.counted).blocks)

pub number-around-requires-clause-n_bound : goal.number-around-requires-clause-n_bound
unfolding block_count region_count
number-around-requires-clause-n_bound c = omega (arith, (counts_facts (columns c.args.store.now) c.requires.counts_bounded.counted).regions)

pub holds-requires-clause-row_bound : goal.holds-requires-clause-row_bound
unfolding block_count
holds-requires-clause-row_bound c = omega (arith, (counts_facts (columns c.args.store.now) c.requires.counts_bounded.counted).blocks)

pub holds-requires-clause-end_bound : goal.holds-requires-clause-end_bound
unfolding block_count
holds-requires-clause-end_bound c = omega (arith, (counts_facts (columns c.args.store.now) c.requires.counts_bounded.counted).blocks)
