-- Each clause by the lemma that it is. Assumes nothing.
use Rattle.rules.proofs.Form.SideBySide.{side_by_side}
use Rattle.rules.proofs.MappingLaws.{mapping_laws_of_sound, mapping_laws_after}
use Rattle.rules.proofs.Marks.Laws.{mapping_laws_marked}
use Rattle.rules.proofs.theorems.filed_mappings.Goals as goal

pub returns : goal.returns
returns c =
    record {
      side_by_side = side_by_side;
      in_sound_stores = mapping_laws_of_sound;
      after_building = mapping_laws_after;
      after_marks_and_copies_under_types = mapping_laws_marked;
    }
