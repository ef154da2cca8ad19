-- Each clause by the lemma that it is. Assumes nothing.
use Rattle.rules.proofs.RenamedTypes.Under.{renamed_sound, renamed_in, renamed_premise, renamed_none, present_once}
use Rattle.rules.proofs.theorems.renamed_types.Goals as goal

pub returns : goal.returns
returns c =
    record {
      stays_sound = renamed_sound;
      same_fragments = renamed_in;
      same_premise = renamed_premise;
      empty_list = renamed_none;
      looked_up_once = present_once;
    }
