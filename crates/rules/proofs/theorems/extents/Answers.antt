-- Each clause by the lemma that it is. Assumes nothing.
use Rattle.rules.proofs.Extents.Laws.{sized_is, extent_fills, extent_renamed, extent_most}
use Rattle.rules.proofs.Extents.Paired.{extent_paired}
use Rattle.rules.proofs.Extents.Nesting.{extent_nesting}
use Rattle.rules.proofs.theorems.extents.Goals as goal

pub returns : goal.returns
returns c =
    record {
      given = sized_is;
      length_is_what_the_key_fills = extent_fills;
      counted_by_comparisons = extent_paired;
      nesting_of_the_deepest = extent_nesting;
      same_under_types = extent_renamed;
      most = extent_most;
    }
