-- Each clause by the lemma that it is. Assumes nothing.
use Rattle.rules.proofs.Copying.Kept.{copy_sound, copy_accepted_exactly}
use Rattle.rules.proofs.Keys.Kept.{copy_fits}
use Rattle.rules.proofs.theorems.accepted_copies.Goals as goal

pub returns : goal.returns
returns c =
    record {
      sound = copy_sound;
      numbers_keep_fitting = copy_fits;
      accepted_exactly = copy_accepted_exactly;
    }
