-- Each clause by the lemma that it is. Assumes nothing.
use Rattle.rules.proofs.Marks.Kept.{marked_sound, after_marked_sound, sound_by_going_back}
use Rattle.rules.proofs.Marks.Accepted.{unmarked_after}
use Rattle.rules.proofs.theorems.soundness_with_marks.Goals as goal

pub returns : goal.returns
returns c =
    record {
      marked_sound = marked_sound;
      after_marked_sound = after_marked_sound;
      sound_by_going_back = sound_by_going_back;
      unmarked_after = unmarked_after;
    }
