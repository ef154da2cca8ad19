-- Each clause by the lemma that it is. Assumes nothing.
use Rattle.rules.proofs.Runs.Windows.{same_window}
use Rattle.rules.proofs.Runs.Sums.{kept_sum_lem}
use Rattle.rules.proofs.Stated.{first_uses}
use Rattle.rules.proofs.theorems.window_sums.Goals as goal

pub returns : goal.returns
returns c =
    record {
      equal_runs_have_equal_sums = same_window;
      kept_sum_is_the_next = kept_sum_lem;
      same_first_operands = first_uses;
    }
