-- Each clause by the lemma that it is. Assumes nothing.
use Rattle.rules.proofs.Stated.{counted_exactly, share_most, per_cent_nearest, output_fits}
use Rattle.rules.proofs.theorems.listings.Goals as goal

pub returns : goal.returns
returns c =
    record {
      counted_exactly = counted_exactly;
      share_most = share_most;
      per_cent_nearest = per_cent_nearest;
      output_fits = output_fits;
    }
