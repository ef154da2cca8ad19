-- Each clause by the lemma that it is. Assumes nothing.
use Rattle.rules.proofs.Stated.{size_most, paired_most}
use Rattle.rules.proofs.Walking.Stays.{nested_at_most, walk_stays}
use Rattle.rules.proofs.Walking.Enough.{levels_enough}
use Rattle.rules.proofs.theorems.nesting_and_size.Goals as goal

pub returns : goal.returns
returns c =
    record {
      nested_at_most = nested_at_most;
      walk_stays = walk_stays;
      levels_enough = levels_enough;
      size_most = size_most;
      paired_most = paired_most;
    }
