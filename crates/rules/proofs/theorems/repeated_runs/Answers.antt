-- Each clause by the lemma that it is. Assumes nothing.
use Rattle.rules.proofs.Runs.Searched.{repeated_found, repeated_none}
use Rattle.rules.proofs.Runs.Answered.{repeated_is, longest_run}
use Rattle.rules.proofs.theorems.repeated_runs.Goals as goal

pub returns : goal.returns
returns c =
    record {
      found = repeated_found;
      none_exactly_when_there_are_none = repeated_none;
      answered = repeated_is;
      longest = longest_run;
    }
