-- Each clause by the lemma that it is. Assumes nothing.
use Rattle.rules.proofs.Listings.Printed.{listing_prints, share_printed}
use Rattle.rules.proofs.theorems.printed_listings.Goals as goal

pub returns : goal.returns
returns c =
    record {
      parts = listing_prints;
      share_at_the_end = share_printed;
    }
