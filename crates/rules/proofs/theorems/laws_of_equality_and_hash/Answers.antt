-- Each clause by the lemma that it is. Assumes nothing.
use Rattle.rules.proofs.Laws.{laws_of_sound, demand3}
use Rattle.rules.proofs.Marks.Laws.{demand3_marked, laws_marked}
use Rattle.rules.proofs.RenamedTypes.Under.{laws_renamed}
use Rattle.rules.proofs.theorems.laws_of_equality_and_hash.Goals as goal

pub returns : goal.returns
returns c =
    record {
      in_sound_stores = laws_of_sound;
      after_building = demand3;
      after_marks_and_copies = demand3_marked;
      after_building_under_types = laws_renamed;
      after_marks_and_copies_under_types = laws_marked;
    }
