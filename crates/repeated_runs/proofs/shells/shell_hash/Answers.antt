-- `shell_hash` meets its contract: kind, number of regions and row are read off the operation, and fed in this order. Assumes nothing.
use Rattle.std.proofs.Common.{◌++◌, ap, ◌∙◌, arith}
use Rattle.rules.specs.Hash.{fnv_start, fnv_from, leaf, count}
use Rattle.layout.specs.Columns.{columns}
use Rattle.layout.specs.Reading.{store_of}
use Rattle.layout.proofs.Laid.{laid_facts}
use Rattle.fragments.specs.View.{options_in}
use Rattle.fragments.proofs.Rounds.{regions_few}
use Rattle.hashing.proofs.Reading.{head_fed, row_fed}
use Rattle.repeated_runs.proofs.Fed.{shell_fed}
use Rattle.repeated_runs.proofs.shells.shell_hash.Goals as goal

pub at-kind-requires : goal.at-kind-requires
at-kind-requires c =
    record {
      column_lt_column_count = omega arith;
      n_bound = omega (arith, (laid_facts (columns c.args.view.now.store.now) c.args.view.now.readable.sound.laid).counts.ops, c.requires.n_bound);
    }

pub overflow_cast-op_regions : goal.overflow_cast-op_regions
overflow_cast-op_regions c =
    record {
      fits = omega (arith, c.op_regions.ensures, regions_few (columns c.args.view.now.store.now) c.args.view.now.readable.sound.ruled c.args.n c.requires.n_bound);
    }

pub returns : goal.returns
returns c =
    let C = columns c.args.view.now.store.now in
    let n = c.args.n in
    let start = c.hash_head.ensures ∙ ap (λ w. fnv_from w (leaf c.at-kind.result ++ count c.op_regions.result)) c.new-state.ensures in
    let fed = head_fed C n c.requires.n_bound fnv_start c.at-kind.ensures c.op_regions.ensures start in
    let o = options_in c.args.view.now in
    row_fed c.op_row-row.ensures o fnv_start fed c.hash_row.ensures ∙ shell_fed (store_of C) o n
