-- Each clause by the lemma that it is. Assumes nothing.
use Rattle.api.proofs.Always.{always_made}
use Rattle.api.proofs.Answering.{after_calls, zeros_empty}
use Rattle.laws.proofs.theorems.lists_of_calls.Goals as goal

pub returns : goal.returns
returns c =
    record {
      always_made = always_made;
      after_calls = after_calls;
      zeros_are_empty = zeros_empty;
    }
