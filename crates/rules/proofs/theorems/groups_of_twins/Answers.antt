-- Each clause by the lemma that it is. Assumes nothing.
use Rattle.rules.proofs.Grouping.Groups.{twin_stays, twins_together, twins_share}
use Rattle.rules.proofs.Grouping.Computed.{twinless_equal}
use Rattle.rules.proofs.theorems.groups_of_twins.Goals as goal

pub returns : goal.returns
returns c =
    record {
      twin_has_none = twin_stays;
      one_twin_makes_twins = twins_together;
      twins_have_one_twin = twins_share;
      premise_needed = twinless_equal;
    }
