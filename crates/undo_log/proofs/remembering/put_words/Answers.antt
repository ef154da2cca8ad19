-- `put_words` meets its contract: its words are written, one to a column. Assumes nothing.
use Rattle.std.proofs.lemmas.Grind.{common_steps}
use native.Mathlib.Omega.{arith}
use mathlib.Core.Path.{refl, ap}
use lib.ListN.{length}
use Rattle.rules.specs.Lists.{all_below}
use Rattle.layout.specs.Columns.{journal_sort}
use Rattle.layout.specs.MarkedReading.{max_entries}
use Rattle.undo_log.specs.Entries.{listed}
use Rattle.mutation.specs.AddedWrites.{with_row}
use Rattle.mutation.proofs.RowWritten.{row_fits_lem}
use Rattle.undo_log.specs.EntryWrites.{words_put}
use Rattle.undo_log.proofs.remembering.put_words.Goals as goal

pub put_row-requires-clause-by_index : goal.put_row-requires-clause-by_index
unfolding listed all_below
put_row-requires-clause-by_index c =
    λ j l. row_fits_lem journal_sort 5 max_entries c.args.n refl c.requires j (omega (arith, ap length c.listed.ensures))

pub returns : goal.returns
unfolding words_put listed with_row
returns c = grind (arith, common_steps)
