-- `arguments_owned` meets its contract: it hands on what `owns` says of the row's range. Assumes nothing.
use native.Mathlib.Omega.{arith}
use Rattle.layout.specs.Columns.{columns}
use Rattle.layout.specs.Reading.{value_count, owner_code}
use Rattle.layout.specs.Soundness.{arguments_owned}
use Rattle.layout.proofs.Laid.{counts_facts}
use borrow.Author.Rules.{rules}
use Rattle.layout.proofs.row_checks.arguments_owned.Goals as goal

pub number-total-requires : goal.number-total-requires
number-total-requires c =
    record { column_lt_column_count = search rules; n_bound = search rules }

pub owns-requires : goal.owns-requires
unfolding value_count
owns-requires c =
    record {
      column_lt_column_count = omega (arith, (counts_facts (columns c.args.store.now) c.requires.counts_bounded.counted).values);
      total_bound = omega (arith, (counts_facts (columns c.args.store.now) c.requires.counts_bounded.counted).values);
    }

pub returns : goal.returns
unfolding arguments_owned value_count owner_code
returns c = cc
