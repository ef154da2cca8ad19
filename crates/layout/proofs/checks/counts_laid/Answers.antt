-- `counts_laid` meets its contract: the rows that are read lie below the totals. Assumes nothing.
use native.Mathlib.Omega.{arith}
use Rattle.layout.specs.Columns.{columns}
use Rattle.layout.specs.Reading.{op_count}
use Rattle.layout.proofs.Laid.{counts_facts}
use Rattle.layout.proofs.checks.counts_laid.Goals as goal

pub end_before-requires-clause-n_bound : goal.end_before-requires-clause-n_bound
unfolding op_count
end_before-requires-clause-n_bound c = omega (arith, (counts_facts (columns c.args.store.now) c.requires.counts_bounded.counted).ops)

pub end_before-requires-then-end_before-number-clause-n_bound : goal.end_before-requires-then-end_before-number-clause-n_bound
unfolding op_count
end_before-requires-then-end_before-number-clause-n_bound c = omega (arith, (counts_facts (columns c.args.store.now) c.requires.counts_bounded.counted).ops)
