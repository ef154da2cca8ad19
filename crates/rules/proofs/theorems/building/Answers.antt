-- Each clause by the lemma that it is. Assumes nothing.
use Rattle.rules.proofs.Soundness.Complete.{accepted_exactly}
use Rattle.rules.proofs.Stated.{built_sound, after_sound}
use Rattle.rules.proofs.theorems.building.Goals as goal

pub returns : goal.returns
returns c =
    record {
      accepted_exactly = accepted_exactly;
      built_sound = built_sound;
      after_sound = after_sound;
    }
