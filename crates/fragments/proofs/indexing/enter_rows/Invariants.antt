-- `enter_rows` meets its contract: the rows that were passed are entered, and an old type that has one already ends it. Assumes nothing.
use mathlib.Core.Path.{◌≡◌}
use lib.ListN.{length}
use Rattle.fragments.specs.Index.{index_length, Rows}
use Rattle.fragments.proofs.indexing.enter_rows.Given as goal

abbrev pub invariant-loop-k : goal.invariant-loop-k
invariant-loop-k l = record { rows : Rows l.types l.index l.k; long : length l.index ≡ index_length }
