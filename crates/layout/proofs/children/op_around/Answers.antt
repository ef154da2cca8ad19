-- `op_around` meets its contract: a block's region is one of the store. Assumes nothing.
use native.Mathlib.Omega.{arith}
use mathlib.Core.Path.{ap, ◌∙◌}
use Rattle.layout.specs.Columns.{columns, at, region_op}
use Rattle.layout.proofs.Laid.{laid_facts}
use Rattle.layout.proofs.children.op_around.Goals as goal

pub number-requires : goal.number-requires
number-requires c =
    let h = laid_facts (columns c.args.store.now) c.requires.arranged.laid in
    record { column_lt_column_count = omega arith; n_bound = omega (arith, h.counts.blocks) }

pub number-requires-2 : goal.number-requires-2
number-requires-2 c =
    let h = laid_facts (columns c.args.store.now) c.requires.arranged.laid in
    record {
      column_lt_column_count = omega arith;
      n_bound = omega (arith, h.counts.regions, (h.block c.args.block c.requires.block_bound).region_in, c.number.ensures);
    }

pub returns : goal.returns
returns c =
    let C = columns c.args.store.now in
    c.number-2.ensures ∙ ap (at C region_op) c.number.ensures
