-- Each clause by the lemma that it is. Assumes nothing.
use Rattle.rules.proofs.Keys.Filed.{key_equal, equal_key}
use Rattle.rules.proofs.Keys.Given.{keyed_is}
use Rattle.rules.proofs.Keys.Longest.{key_longest}
use Rattle.rules.proofs.theorems.keys.Goals as goal

pub returns : goal.returns
returns c =
    record {
      same_key_is_equal = key_equal;
      equal_has_same_key = equal_key;
      written_where_it_fits = keyed_is;
      longest = key_longest;
    }
