-- Each clause by the lemma that it is. Assumes nothing.
use Rattle.rules.proofs.Keys.Filed.{filers_law}
use Rattle.rules.proofs.Keys.Kept.{fields_fit_kept, filers_law_after}
use Rattle.rules.proofs.RenamedTypes.Under.{filers_law_renamed}
use Rattle.rules.proofs.Marks.Laws.{filers_law_marked}
use Rattle.rules.proofs.theorems.filers_law.Goals as goal

pub returns : goal.returns
returns c =
    record {
      in_sound_stores = filers_law;
      numbers_keep_fitting = fields_fit_kept;
      after_building = filers_law_after;
      after_building_under_types = filers_law_renamed;
      after_marks_and_copies_under_types = filers_law_marked;
    }
