-- Each clause by the lemma that it is. Assumes nothing.
use Rattle.rules.proofs.Listed.{all_print, shares_hold}
use Rattle.rules.proofs.Converting.Computed.{all_converted}
use Rattle.rules.proofs.theorems.cases_of_listings.Goals as goal

pub returns : goal.returns
returns c =
    record {
      printed = all_print;
      shares = shares_hold;
      converted = all_converted;
    }
