-- `block_laid` meets its contract: the rows that are read lie below the totals. Assumes nothing.
use native.Mathlib.Omega.{arith}
use Rattle.layout.specs.Columns.{columns}
use Rattle.layout.specs.Reading.{region_count}
use Rattle.layout.proofs.Laid.{counts_facts}
use Rattle.layout.proofs.row_checks.block_laid.Goals as goal

pub holds-requires-clause-row_bound : goal.holds-requires-clause-row_bound
unfolding region_count
holds-requires-clause-row_bound c = omega (arith, (counts_facts (columns c.args.store.now) c.requires.counts_bounded.counted).regions)

pub holds-requires-clause-end_bound : goal.holds-requires-clause-end_bound
unfolding region_count
holds-requires-clause-end_bound c = omega (arith, (counts_facts (columns c.args.store.now) c.requires.counts_bounded.counted).regions)
