-- The walk that hashes, as a walk of any kind: its steps number and feed, from words and a running word to others. Assumes nothing.
use Rattle.std.proofs.Common.{ℕ, List, length}
use Rattle.rules.specs.Store.{Store}
use Rattle.rules.specs.Fragments.{shells}
use Rattle.rules.specs.declared.types.Owner.{Owner}
use Rattle.fragments.specs.Options.{Options}
use Rattle.fragments.specs.Numbered.{DefinitionsFit}
use Rattle.fragments.proofs.Counting.{room_first, room_rest, room_counted}
use Rattle.fragments.proofs.Passing.{StepRelation}
use Rattle.fragments.proofs.Rounds.{each_shell}
use Rattle.hashing.specs.Walked.{Feeds}
use Rattle.hashing.proofs.Feeding.{fed_none, fed_then, fed_counted}

abbrev pub hash_walk : Store → Options → StepRelation (List ℕ × ℕ)
hash_walk s o =
    record {
      Does = λ xs a b. Feeds s o xs a.0 b.0 a.1 b.1;
      Room = λ xs a. DefinitionsFit s xs a.0;
      none = λ a. fed_none s o a.0 a.1;
      both = λ xs ys f g. fed_then s o xs ys f g;
      first = λ xs ys r. room_first s xs ys r;
      rest = λ xs ys r f. room_rest s xs ys r f.numbers;
    }

-- where a list of shells begins nothing is fed
module _ {s : Store} (w : ℕ → Owner) (ns : List ℕ) {a : List ℕ} where
  pub shells_room : DefinitionsFit s (shells w ns) a → DefinitionsFit s (each_shell w ns) a
  unfolding shells
  shells_room r = room_counted s (length ns) (each_shell w ns) r

  pub shells_fed : {o : Options} {b : List ℕ} {v v' : ℕ} → Feeds s o (each_shell w ns) a b v v' → Feeds s o (shells w ns) a b v v'
  unfolding shells
  shells_fed {o} f = fed_counted s o (length ns) (each_shell w ns) f
