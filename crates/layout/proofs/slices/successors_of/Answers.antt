-- `successors_of` meets its contract: the slice is what the operation is read with. Assumes nothing.
use native.Mathlib.Omega.{arith}
use mathlib.Core.Path.{sym, ap, ◌∙◌}
use Rattle.rules.specs.Store.{Op}
use Rattle.layout.specs.Columns.{columns}
use Rattle.layout.specs.Reading.{op_of}
use Rattle.layout.proofs.Laid.{laid_facts}
use Rattle.layout.proofs.Tabulate.{op_read}
use Rattle.layout.proofs.slices.successors_of.Goals as goal

pub row_words-requires : goal.row_words-requires
row_words-requires c =
    let h = laid_facts (columns c.args.store.now) c.requires.arranged.laid in
    let r = (h.op c.args.n c.requires.n_bound).successors.range in
    record {
      first_lt_column_count = omega arith;
      end_lt_column_count = omega arith;
      column_lt_column_count = omega arith;
      row_bound = omega (arith, h.counts.ops);
      end_bound = omega (arith, h.counts.ops);
      range_rises = r.rises;
      range_within = omega (arith, r.fits, h.counts.successors);
    }

pub returns : goal.returns
unfolding op_of
returns c =
    c.row_words.ensures ∙ sym (ap (λ (o : Op). o.successors) (op_read (columns c.args.store.now) c.args.n c.requires.n_bound))
