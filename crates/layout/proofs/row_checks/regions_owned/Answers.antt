-- `regions_owned` meets its contract: it hands on what `owns` says of the row's range. Assumes nothing.
use native.Mathlib.Omega.{arith}
use Rattle.layout.specs.Columns.{columns}
use Rattle.layout.specs.Reading.{region_count}
use Rattle.layout.specs.Soundness.{regions_owned}
use Rattle.layout.proofs.Laid.{counts_facts}
use borrow.Author.Rules.{rules}
use Rattle.layout.proofs.row_checks.regions_owned.Goals as goal

pub number-total-requires : goal.number-total-requires
number-total-requires c =
    record { column_lt_column_count = search rules; n_bound = search rules }

pub owns-requires : goal.owns-requires
unfolding region_count
owns-requires c =
    record {
      column_lt_column_count = omega (arith, (counts_facts (columns c.args.store.now) c.requires.counts_bounded.counted).regions);
      total_bound = omega (arith, (counts_facts (columns c.args.store.now) c.requires.counts_bounded.counted).regions);
    }

pub returns : goal.returns
unfolding regions_owned region_count
returns c = cc
